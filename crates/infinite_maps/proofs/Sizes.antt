-- Products of small numbers fit, and rows of a rectangle.
use Rattle.std.proofs.Common.{ℕ, ◌+◌, ◌*◌, ◌/◌, ◌^◌, ◌<◌, max, arith}
use Rattle.std.proofs.lemmas.Nat.{mul-lt, row-Below}
use Rattle.std.proofs.Math.Nat.{div-le_self, div-mul-le_self}

pub product_fits : (a b : ℕ) → a < 2 ^ 33 → b < 2 ^ 16 → a * b < 2 ^ 49
product_fits a b ha hb = mul-lt a b (2 ^ 33) (2 ^ 16) ha hb

-- the row of the k-th cell
pub row_below : (k width height : ℕ) → k < width * height → k / max width 1 < height
row_below k width height h = (row-Below k (max width 1) width height h (omega arith)).1

pub count_small : (n side : ℕ) → n < 2 ^ 30 → n / side + 1 < 2 ^ 31
count_small n side h = omega (arith, div-le_self n side)

pub areas_fit : (a b : ℕ) → a < 2 ^ 32 → b < 2 ^ 32 → a * b < 2 ^ 64
areas_fit a b ha hb = mul-lt a b (2 ^ 32) (2 ^ 32) ha hb

pub long_area_fits : (a b : ℕ) → a < 2 ^ 64 → b < 2 ^ 64 → a * b < 2 ^ 128
long_area_fits a b ha hb = mul-lt a b (2 ^ 64) (2 ^ 64) ha hb

pub ruleset long_areas = (long_area_fits)

pub ruleset products = (product_fits)

pub ruleset areas = (areas_fit)

pub ruleset wholes = (div-mul-le_self)

pub ruleset places = (product_fits, row_below)

pub ruleset counts = (count_small)
