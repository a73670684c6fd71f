-- x * y + z rounded once to binary32. A value is the library's `Float`: `nan`, `inf s`, or `fin s m e`, which is m * 2 ^ e; s says whether it is negative.
use Rattle.std.specs.Prelude.{◌*◌, ◌==◌, ◌+ℤ◌, if◌then◌else◌, Float}
use Rattle.std.specs.Float.{nan, inf, fin, binary32}
use Rattle.std.specs.Float.Ieee.{unlike, add}

-- x times y, exact and of any size; an infinity times a zero is `nan`
abbrev pub exact_product : Float → Float → Float
exact_product nan y = nan
exact_product (inf s) nan = nan
exact_product (inf s) (inf t) = inf (unlike s t)
exact_product (inf s) (fin t n d) = if n == 0 then nan else inf (unlike s t)
exact_product (fin s m e) nan = nan
exact_product (fin s m e) (inf t) = if m == 0 then nan else inf (unlike s t)
exact_product (fin s m e) (fin t n d) = fin (unlike s t) (m * n) (e +ℤ d)

-- IEEE 754's fusedMultiplyAdd at binary32: z is added to the exact product, and the one rounding is that of the library's sum
unfoldable pub fused_of : Float → Float → Float → Float
fused_of x y z = add binary32 (exact_product x y) z
