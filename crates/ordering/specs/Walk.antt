-- The depth-first walk over any graph: `out x` lists the targets of x's edges, the oldest first, and `br x` says whether x is a breaker.
use Rattle.std.specs.Prelude.{ℕ, zero, suc, Bool, true, false, if◌then◌else◌, List, [], ◌∷◌, ◌++◌, Option, Some, None, ◌==◌, slice_index_or, slice_set, count_by, not}
use Rattle.std.specs.List.{find}

-- what the walk has noted
pub record Notes : Type 0 where
  pub met : List Bool  -- for each id, whether the walk came to it
  pub path : List ℕ  -- the ids on the path, from where the walk began
  pub finished : List ℕ  -- the finished ids, the first one first
  pub muted : List Bool  -- for each id, whether it is muted
  pub found : Option ℕ  -- the breaker at which a loop is to be opened

-- an id's flag in such a list
abbrev pub flag : List Bool → ℕ → Bool
flag m x = slice_index_or m x false

-- how many ids were not met
abbrev pub unmet : List Bool → ℕ
unmet m = count_by not m

-- the list from the first id on that passes the test
unfoldable pub from : (ℕ → Bool) → List ℕ → List ℕ
from test [] = []
from test (x ∷ xs) = if test x then x ∷ xs else from test xs

-- each of some ids muted
unfoldable pub mute_all : List Bool → List ℕ → List Bool
mute_all m [] = m
mute_all m (x ∷ xs) = mute_all (slice_set m x true) xs

-- A loop is met: with no breaker on it all of it is muted, and otherwise its first breaker was found.
unfoldable pub opened_or_muted : Notes → List ℕ → Option ℕ → Notes
opened_or_muted n loop None = record n { muted = mute_all n.muted loop }
opened_or_muted n loop (Some b) = record n { found = Some b }

-- id is met and stands last on the path
unfoldable pub enter : Notes → ℕ → Notes
enter n id = record n { met = slice_set n.met id true; path = n.path ++ (id ∷ []) }

-- id is finished unless a breaker was found
unfoldable pub finished_by : List ℕ → ℕ → Option ℕ → List ℕ
finished_by ids id None = ids ++ (id ∷ [])
finished_by ids id (Some b) = ids

-- back from id: the path is what it was
unfoldable pub leave : List ℕ → ℕ → Notes → Notes
leave path id n = record n { path = path; finished = finished_by n.finished id n.found }

-- `go` at one id, unless a breaker was found
unfoldable pub go_on : (Notes → ℕ → Notes) → Notes → ℕ → Option ℕ → Notes
go_on go n id None = go n id
go_on go n id (Some b) = n

-- `go` at each of some ids, up to the first breaker found
unfoldable pub along : (Notes → ℕ → Notes) → Notes → List ℕ → Notes
along go n [] = n
along go n (t ∷ ts) = along go (go_on go n t n.found) ts

-- one visit, by the path from id on and by whether id was met: one that was met and is not on the path is finished
unfoldable pub step : (Notes → ℕ → Notes) → (ℕ → List ℕ) → (ℕ → Bool) → Notes → ℕ → List ℕ → Bool → Notes
step go out br n id (x ∷ xs) met = opened_or_muted n (x ∷ xs) (find br (x ∷ xs))
step go out br n id [] true = n
step go out br n id [] false = leave n.path id (along go (enter n id) (out id))

-- the walk from id on, at most f deep
unfoldable pub visit : (ℕ → List ℕ) → (ℕ → Bool) → ℕ → Notes → ℕ → Notes
visit out br zero n id = n
visit out br (suc f) n id = step (visit out br f) out br n id (from (λ x. x == id) n.path) (flag n.met id)
