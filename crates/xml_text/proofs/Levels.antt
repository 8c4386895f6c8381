-- How deep an element may nest.
use Rattle.std.proofs.Common.{◌≡◌, ℕ, zero, suc, ◌-◌, ◌<◌, List, Err, refl, ap, arith}
use Rattle.xml_text.specs.declared.fault.Flaw.TheVariants.{TooDeep}
use Rattle.xml_text.specs.Reading.{element_of, element_by}

pub no_level : (levels : ℕ) (bytes : List ℕ) → levels ≡ 0 → element_of levels bytes ≡ Err TooDeep
unfolding element_of
no_level zero bytes h = refl
no_level (suc n) bytes h = absurd (omega (arith, h))

pub some_level : (levels : ℕ) (bytes : List ℕ) → 0 < levels → element_of levels bytes ≡ element_by (element_of (levels - 1)) bytes
unfolding element_of
some_level zero bytes h = absurd (omega (arith, h))
some_level (suc n) bytes h = let e : n ≡ suc n - 1 = omega arith in ap (λ m. element_by (element_of m) bytes) e
