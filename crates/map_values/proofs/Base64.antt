-- The text of base64 has no blanks, and is read again.
use Rattle.std.proofs.Common.{◌≡◌, ℕ, zero, suc, ◌%◌, ◌<◌, Bool, true, not, List, [], ◌∷◌, ◌++◌, length, get_or, replicate, filter, Ok, refl, sym}
use Rattle.std.proofs.Common.{ap, ◌∙◌, arith}
use Rattle.std.proofs.lemmas.Bool.{and_from, and_parts}
use Rattle.std.specs.List.{list_all}
use Rattle.base64.specs.Rfc4648.{encode_symbols, padding_len}
use Rattle.base64.specs.Engines.{standard}
use Rattle.base64.specs.GeneralPurpose.{encode_of, decode_of, IsBytes}
use Rattle.base64.proofs.EngineFacts.{decode_of-encode_of}
use Rattle.map_values.specs.Cells.{is_blank, packed, bytes_of}

abbrev is_no_blank : ℕ → Bool
is_no_blank b = not (is_blank b)

filter_all : (xs : List ℕ) → list_all is_no_blank xs ≡ true → filter is_no_blank xs ≡ xs
filter_all [] e = refl
filter_all (x ∷ xs) e = let h = and_parts (is_no_blank x) (list_all is_no_blank xs) e in rw h.0 (ap (λ (ys : List ℕ). x ∷ ys) (filter_all xs h.1))

list_all-append : (xs ys : List ℕ) → list_all is_no_blank xs ≡ true → list_all is_no_blank ys ≡ true → list_all is_no_blank (xs ++ ys) ≡ true
list_all-append [] ys a b = b
list_all-append (x ∷ xs) ys a b = let h = and_parts (is_no_blank x) (list_all is_no_blank xs) a in
    and_from (is_no_blank x) (list_all is_no_blank (xs ++ ys)) h.0 (list_all-append xs ys h.1 b)

list_all-replicate : (n : ℕ) → list_all is_no_blank (replicate n 61) ≡ true
list_all-replicate zero = refl
list_all-replicate (suc n) = list_all-replicate n

-- no element of such a table is blank, nor what is past its end
at_no_blank : (t : List ℕ) → list_all is_no_blank t ≡ true → (i : ℕ) → is_no_blank (get_or t i 0) ≡ true
at_no_blank [] e i = refl
at_no_blank (x ∷ t) e zero = (and_parts (is_no_blank x) (list_all is_no_blank t) e).0
at_no_blank (x ∷ t) e (suc i) = at_no_blank t (and_parts (is_no_blank x) (list_all is_no_blank t) e).1 i

module _ (t : List ℕ) (table : (i : ℕ) → is_no_blank (get_or t i 0) ≡ true) where
  symbols_no_blank : (m : List ℕ) → list_all is_no_blank (encode_symbols t m) ≡ true
  unfolding encode_symbols
  symbols_no_blank [] = refl
  symbols_no_blank (a ∷ []) = rw (table, table) refl
  symbols_no_blank (a ∷ b ∷ []) = rw (table, table, table) refl
  symbols_no_blank (a ∷ b ∷ c ∷ rest) = rw (table, table, table, table) (symbols_no_blank rest)

packed-encode_of : (m : List ℕ) → packed (encode_of standard m) ≡ encode_of standard m
packed-encode_of m =
    let table = at_no_blank standard.encode_table refl in
    filter_all (encode_of standard m) (list_all-append (encode_symbols standard.encode_table m) (replicate (padding_len (length m)) 61)
    (symbols_no_blank standard.encode_table table m) (list_all-replicate (padding_len (length m))))

-- a text that is decoded as it stands has no blanks
pub decoded_solid : (text bytes : List ℕ) → text ≡ encode_of standard bytes → decode_of standard text ≡ Ok bytes → decode_of standard (packed text) ≡ Ok bytes
decoded_solid text bytes exact ok = ap (decode_of standard) (ap packed exact ∙ packed-encode_of bytes ∙ sym exact) ∙ ok

pub decoded_again : (m : List ℕ) → IsBytes m → decode_of standard (packed (encode_of standard m)) ≡ Ok m
decoded_again m bytes = ap (decode_of standard) (packed-encode_of m) ∙ decode_of-encode_of standard m refl bytes

below_256 : (n : ℕ) → n % 256 < 256
below_256 n = omega arith

pub IsBytes-bytes_of : (cells : List ℕ) → IsBytes (bytes_of cells)
IsBytes-bytes_of [] i = omega arith
IsBytes-bytes_of (c ∷ cs) zero = below_256 _
IsBytes-bytes_of (c ∷ cs) (suc zero) = below_256 _
IsBytes-bytes_of (c ∷ cs) (suc (suc zero)) = below_256 _
IsBytes-bytes_of (c ∷ cs) (suc (suc (suc zero))) = below_256 _
IsBytes-bytes_of (c ∷ cs) (suc (suc (suc (suc i)))) = IsBytes-bytes_of cs i
