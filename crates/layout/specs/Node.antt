-- The table of nodes by id: one reader and one writer for each field of a node.
use Rattle.std.specs.Prelude.{ℕ, ◌+◌, ◌*◌, Bool, List, slice_index, slice_set}
use Rattle.layout.specs.Sizes.{flag_at, set_flag, node_part, node_words}

-- word w of node id
abbrev pub node_word : List ℕ → ℕ → ℕ → ℕ
node_word s id w = slice_index s (node_part + node_words * id + w)

abbrev pub set_node_word : List ℕ → ℕ → ℕ → ℕ → List ℕ
set_node_word s id w v = slice_set s (node_part + node_words * id + w) v

-- there is a node under id
abbrev pub is_present : List ℕ → ℕ → Bool
is_present s id = flag_at s (node_part + node_words * id + 0)

abbrev pub set_present : List ℕ → ℕ → Bool → List ℕ
set_present s id v = set_flag s (node_part + node_words * id + 0) v

-- how many inputs node id has
abbrev pub inputs_of : List ℕ → ℕ → ℕ
inputs_of s id = node_word s id 1

abbrev pub set_inputs : List ℕ → ℕ → ℕ → List ℕ
set_inputs s id v = set_node_word s id 1 v

-- how many outputs node id has
abbrev pub outputs_of : List ℕ → ℕ → ℕ
outputs_of s id = node_word s id 2

abbrev pub set_outputs : List ℕ → ℕ → ℕ → List ℕ
set_outputs s id v = set_node_word s id 2 v

-- the channel count of its setting
abbrev pub count_of : List ℕ → ℕ → ℕ
count_of s id = node_word s id 3

abbrev pub set_count : List ℕ → ℕ → ℕ → List ℕ
set_count s id v = set_node_word s id 3 v

-- the count mode of its setting: Max, ClampedMax, Explicit are 0, 1, 2
abbrev pub mode_of : List ℕ → ℕ → ℕ
mode_of s id = node_word s id 4

abbrev pub set_mode : List ℕ → ℕ → ℕ → List ℕ
set_mode s id v = set_node_word s id 4 v

-- the channel interpretation of its setting: Speakers, Discrete are 0, 1
abbrev pub interpretation_of : List ℕ → ℕ → ℕ
interpretation_of s id = node_word s id 5

abbrev pub set_interpretation : List ℕ → ℕ → ℕ → List ℕ
set_interpretation s id v = set_node_word s id 5 v

-- its handle is dropped
abbrev pub is_dropped : List ℕ → ℕ → Bool
is_dropped s id = flag_at s (node_part + node_words * id + 6)

abbrev pub set_dropped : List ℕ → ℕ → Bool → List ℕ
set_dropped s id v = set_flag s (node_part + node_words * id + 6) v

-- it is marked as a breaker
abbrev pub is_breaker : List ℕ → ℕ → Bool
is_breaker s id = flag_at s (node_part + node_words * id + 7)

abbrev pub set_breaker : List ℕ → ℕ → Bool → List ℕ
set_breaker s id v = set_flag s (node_part + node_words * id + 7) v

-- it "has inputs": a signal was delivered to it since its last finish
abbrev pub has_inputs : List ℕ → ℕ → Bool
has_inputs s id = flag_at s (node_part + node_words * id + 8)

abbrev pub set_has_inputs : List ℕ → ℕ → Bool → List ℕ
set_has_inputs s id v = set_flag s (node_part + node_words * id + 8) v

-- it has side effects
abbrev pub has_side_effects : List ℕ → ℕ → Bool
has_side_effects s id = flag_at s (node_part + node_words * id + 9)

abbrev pub set_side_effects : List ℕ → ℕ → Bool → List ℕ
set_side_effects s id v = set_flag s (node_part + node_words * id + 9) v
