-- Each flag of the state: what is read where it stands, and the state once it is written.
use Rattle.std.specs.Prelude.{ℕ, Bool, List}
use Rattle.layout.specs.Header.{is_dirty, set_dirty, is_open, set_open}
use Rattle.layout.specs.Node.{is_present, set_present, is_dropped, set_dropped, is_breaker, set_breaker, has_inputs, set_has_inputs, has_side_effects, set_side_effects}
use Rattle.layout.specs.declared.field.Flag.{Flag}
use Rattle.layout.specs.declared.field.Flag.TheVariants.{Dirty, Open, Present, Dropped, Breaker, HasInputs, SideEffects}

abbrev pub flag_of : List ℕ → Flag → Bool
flag_of s Dirty = is_dirty s
flag_of s Open = is_open s
flag_of s (Present id) = is_present s id.index
flag_of s (Dropped id) = is_dropped s id.index
flag_of s (Breaker id) = is_breaker s id.index
flag_of s (HasInputs id) = has_inputs s id.index
flag_of s (SideEffects id) = has_side_effects s id.index

abbrev pub put_flag : List ℕ → Flag → Bool → List ℕ
put_flag s Dirty v = set_dirty s v
put_flag s Open v = set_open s v
put_flag s (Present id) v = set_present s id.index v
put_flag s (Dropped id) v = set_dropped s id.index v
put_flag s (Breaker id) v = set_breaker s id.index v
put_flag s (HasInputs id) v = set_has_inputs s id.index v
put_flag s (SideEffects id) v = set_side_effects s id.index v
