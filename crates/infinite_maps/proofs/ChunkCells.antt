-- The cells that a chunk's data have.
use Rattle.std.proofs.Common.{◌≡◌, ℕ, zero, suc, ◌+◌, ◌*◌, ◌/◌, ◌%◌, ◌^◌, ◌<◌, List, [], ◌∷◌, Bool, true, false, Some, get_or, map, refl, ap, arith}
use Rattle.base64.specs.Engines.{standard}
use Rattle.base64.specs.GeneralPurpose.{IsBytes}
use Rattle.base64.proofs.EngineFacts.{decode_of-encode_of}
use Rattle.serde_json.specs.Data.{number, unsigned}
use Rattle.serde_json.specs.View.{items_of}
use Rattle.infinite_maps.specs.Cells.{words_of, bytes_of, wholes, cells_of, cells_data}

-- each is a number of 32 bits
abbrev pub AreWords : List ℕ → Type 0
AreWords cells = (k : ℕ) → get_or cells k 0 < 2 ^ 32

four_bytes : (n : ℕ) → n < 2 ^ 32 → n % 256 + 256 * (n / 256 % 256) + 65536 * (n / 65536 % 256) + 16777216 * (n / 16777216 % 256) ≡ n
four_bytes n h = omega arith

pub words_of-bytes_of : (cells : List ℕ) → AreWords cells → words_of (bytes_of cells) ≡ cells
words_of-bytes_of [] h = refl
words_of-bytes_of (n ∷ ns) h = rw (four_bytes n (h 0), words_of-bytes_of ns (λ k. h (suc k))) refl

pub bytes_of-bytes : (cells : List ℕ) → IsBytes (bytes_of cells)
bytes_of-bytes [] i = omega arith
bytes_of-bytes (n ∷ ns) zero = omega arith
bytes_of-bytes (n ∷ ns) (suc zero) = omega arith
bytes_of-bytes (n ∷ ns) (suc (suc zero)) = omega arith
bytes_of-bytes (n ∷ ns) (suc (suc (suc zero))) = omega arith
bytes_of-bytes (n ∷ ns) (suc (suc (suc (suc i)))) = bytes_of-bytes ns i

wholes-numbers : (cells : List ℕ) → wholes (items_of (map (λ n. number (unsigned n)) cells)) ≡ cells
wholes-numbers [] = refl
wholes-numbers (n ∷ ns) = ap (λ ms. n ∷ ms) (wholes-numbers ns)

-- cells that were written are read
pub cells_of-cells_data : (text : Bool) (cells : List ℕ) → (text ≡ true → AreWords cells) → cells_of (cells_data text cells) ≡ Some cells
unfolding cells_data
cells_of-cells_data true cells h =
    let decoded = decode_of-encode_of standard (bytes_of cells) refl (bytes_of-bytes cells) in
    rw (decoded, words_of-bytes_of cells (h refl)) refl
cells_of-cells_data false cells h = ap Some (wholes-numbers cells)
