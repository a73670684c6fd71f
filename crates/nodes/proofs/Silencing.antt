-- The turns of the loop that makes ports silent.
use Rattle.std.proofs.Common.{◌≡◌, refl, ◌∙◌, ℕ, suc, ◌+◌, ◌-◌, ◌<◌, ◌≤◌, ◌^◌, Bool, true, false, if◌then◌else◌, ◌==◌, List, arith}
use Rattle.layout.specs.Sizes.{id_room, port_room, row_room}
use Rattle.layout.specs.Row.{port_row, cap_of}
use Rattle.layout.specs.Setting.{fresh_setting, words_of}
use Rattle.layout.specs.declared.row.Side.{Side}
use Rattle.layout.specs.declared.row.Side.TheVariants.{Input, Output}
use Rattle.pool.specs.Rows.{Held, cleared}
use Rattle.pool.proofs.Rows.{cleared_turned, caps_same}
use Rattle.nodes.specs.Nodes.{ports_silent}

pub fresh_small : (ceiling : ℕ) → (words_of (fresh_setting ceiling)).count < 2 ^ 32
fresh_small ceiling = at (ceiling == 1)
  where
    at : (b : Bool) → (if b then 1 else 2) < 2 ^ 32
    at true = omega arith
    at false = omega arith

pub port_row_in : (side : Side) (id p : ℕ) → id < id_room → p < port_room → port_row side id p < row_room
port_row_in Input id p l m = omega arith
port_row_in Output id p l m = omega arith

-- state t is on the way from state s to where the first n ports are silent: those below p are
pub record Silencing (side : Side) (id n : ℕ) (s : List ℕ) (p : ℕ) (t : List ℕ) : Type 0 where
  pub held : Held t
  pub caps : (r : ℕ) → r < row_room → cap_of t r ≡ cap_of s r
  pub rest : ports_silent side id t (n - p) p ≡ ports_silent side id s n 0

module _ (side : Side) (id n : ℕ) (s : List ℕ) where
  pub silencing_first : Held s → Silencing side id n s 0 s
  silencing_first h = let e : n - 0 ≡ n = omega arith in record { held = h; caps = λ r l. refl; rest = rw e refl }

  module _ (p : ℕ) (t : List ℕ) (g : Silencing side id n s p t) where
    pub silencing_room : id < id_room → n ≤ port_room → ((q : ℕ) → q < n → 0 < cap_of s (port_row side id q)) → p < n → 0 < cap_of t (port_row side id p)
    silencing_room l m f k = rw (g.caps (port_row side id p) (port_row_in side id p l (omega arith))) (f p k)

    pub silencing_turn : id < id_room → n ≤ port_room → ((q : ℕ) → q < n → 0 < cap_of s (port_row side id q)) → p < n → Silencing side id n s (p + 1) (cleared t (port_row side id p))
    unfolding ports_silent
    silencing_turn l m f k =
        let r = port_row side id p in
        let i : r < row_room = port_row_in side id p l (omega arith) in
        let c = cleared_turned t r g.held i (silencing_room l m f k) in
        let e : n - p ≡ suc (n - (p + 1)) = omega arith in
        record { held = c.held; caps = λ q j. caps_same r t (cleared t r) c.but q j ∙ g.caps q j; rest = rw e at g.rest }

    pub silencing_end : n ≤ p → t ≡ ports_silent side id s n 0
    unfolding ports_silent
    silencing_end k = let e : n - p ≡ 0 = omega arith in rw e at g.rest

pub ruleset silencing = (silencing_first, silencing_room, silencing_turn, silencing_end)
