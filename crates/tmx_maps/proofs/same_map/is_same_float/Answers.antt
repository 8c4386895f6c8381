use Rattle.std.proofs.Common.{◌≡◌, true, sym, ap, ◌∙◌, subst, T, eqb-true, eq-eqb, to_bits}
use Rattle.std.specs.Float.{binary64}
use Rattle.std.specs.Float.Ieee
use lib.Ieee.Bits.{of_bits-to_bits}
use Rattle.tmx_maps.proofs.same_map.is_same_float.Goals as goal

pub returns : goal.returns
returns c =
    let back = λ (x : Ieee.Float) (fits : Ieee.fits binary64 x ≡ true). of_bits-to_bits binary64 x (subst T (sym fits) tt) in
    rw (c.f64_to_bits_with_nan.ensures, c.f64_to_bits_with_nan-2.ensures) (
      λ same. sym (back c.args.one c.well_formed.0.1) ∙ ap (Ieee.of_bits binary64) (eqb-true _ _ same) ∙ back c.args.other c.well_formed.1.0.1,
      λ same. eq-eqb _ _ (ap (to_bits binary64) same),
    )
