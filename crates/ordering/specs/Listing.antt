-- The two lists of ids as the state holds them.
use Rattle.std.specs.Prelude.{ℕ, ◌+◌, List, [], ◌∷◌}
use Rattle.layout.specs.Header.{set_order_length, set_muted_length}
use Rattle.layout.specs.Lists.{set_order_at, set_muted_at}
use Rattle.ordering.specs.declared.list.IdList.{IdList}
use Rattle.ordering.specs.declared.list.IdList.TheVariants.{Order, Muted}

-- with x at place k of the list
abbrev pub set_at : IdList → List ℕ → ℕ → ℕ → List ℕ
set_at Order s k x = set_order_at s k x
set_at Muted s k x = set_muted_at s k x

-- with n as the list's length
abbrev pub set_length : IdList → List ℕ → ℕ → List ℕ
set_length Order s n = set_order_length s n
set_length Muted s n = set_muted_length s n

-- some ids stored as the list from place k on, and then how many they are
unfoldable pub put_list : IdList → List ℕ → List ℕ → ℕ → List ℕ
put_list list s [] k = set_length list s k
put_list list s (x ∷ xs) k = put_list list (set_at list s k x) xs (k + 1)
