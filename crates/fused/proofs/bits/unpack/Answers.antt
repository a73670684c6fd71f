use Rattle.std.proofs.Common.{sym, ◌∙◌, subst, Bool, not, T, to_bits}
use Rattle.std.specs.Bool.{passes}
use Rattle.std.specs.Float.{binary32, NotNan}
use Rattle.fused.proofs.Patterns.{nan_is, infinite_is, finite_is}
use Rattle.fused.proofs.bits.unpack.Goals as goal

pub returns-then-is_nan-clause-value : goal.returns-then-is_nan-clause-value
returns-then-is_nan-clause-value c = nan_is c.args.x (sym c.is_nan.ensures.value ∙ c.if-is_nan.true)

pub returns-then-field-eq-FULL_FIELD-clause-value : goal.returns-then-field-eq-FULL_FIELD-clause-value
returns-then-field-eq-FULL_FIELD-clause-value c =
    let n : NotNan c.args.x = subst (λ (b : Bool). T (not b)) (sym c.if-is_nan.false ∙ c.is_nan.ensures.value) tt in
    infinite_is c.args.x (passes _ c.well_formed.0.1) n (sym c.field.ensures ∙ c.if-field-eq-FULL_FIELD.true)

pub returns-clause-value : goal.returns-clause-value
returns-clause-value c =
    let bits = to_bits binary32 c.args.x in
    let v = finite_is c.args.x (passes _ c.well_formed.0.1) (λ e. c.if-field-eq-FULL_FIELD.false (c.field.ensures ∙ e)) in
    rw (c.significand.ensures.value, c.place.ensures.value) v
