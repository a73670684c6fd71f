-- The fresh setting in the numbers that the state holds.
use Rattle.std.proofs.Common.{◌≡◌, refl, ℕ, if◌then◌else◌, ◌==◌}
use Rattle.layout.specs.Setting.{fresh_setting, words_of}

pub words_of-fresh_setting : (ceiling : ℕ) → words_of (fresh_setting ceiling) ≡ record { count = if ceiling == 1 then 1 else 2; mode = 0; interpretation = 0 }
words_of-fresh_setting ceiling = refl
