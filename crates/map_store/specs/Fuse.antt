-- What a store keeps of which one call fails, for tests.
use Rattle.std.specs.Prelude.{◌≡◌, ◌≢◌, ℕ, ◌-◌, List, refl}
use Rattle.std.specs.Ordering.{nat_cmp}
use Rattle.std.specs.Cmp.Lexicographic.{slice_cmp}
use Rattle.std.specs.FinMap.{code}
use Rattle.std.specs.Coded.{Coded, code_by, coded×, coded_ℕ, coded_list}
use Rattle.map_store.specs.Asking.{Asked, coded_asked}
use Rattle.map_store.specs.Files.{Files}

-- what a store keeps of which one call fails: its files, how often it has failed, the calls up to the one that fails, or 0 where
-- none will, and what it was asked
pub record FuseParts : Type 0 where
  pub files : Files
  pub failures : ℕ
  pub left : ℕ
  pub asked : List Asked

-- these parts are coded as the tuple of their fields
abbrev pub fuse_code : Coded FuseParts
fuse_code =
    code_by (Files × (ℕ × (ℕ × List Asked))) (coded× (code {R = slice_cmp nat_cmp} (coded_list coded_ℕ) (coded_list coded_ℕ))
    (coded× coded_ℕ (coded× coded_ℕ (coded_list coded_asked))))
    (λ p. (p.files, (p.failures, (p.left, p.asked))))
    (λ t. record { files = t.0; failures = t.1.0; left = t.1.1.0; asked = t.1.1.1 }) (λ _. refl)

-- a call was made: the one that fails is a call nearer. At that one no file changes; at any other the count of failures stays.
pub record HasBurned (before after : FuseParts) : Type 0 where
  pub left : after.left ≡ before.left - 1
  pub failures : before.left ≢ 1 → after.failures ≡ before.failures
  pub files : before.left ≡ 1 → after.files ≡ before.files
