-- What a comparison has read, and what it compares with.
use Rattle.std.proofs.Common.{◌≡◌, ◌↔◌, IfSome, IsTrue, true, false, ℕ}
use Rattle.std.proofs.Common.{List, ◌++◌, length, take, drop, Option, None, Some, bytes_eq, sym, ap, ◌∙◌, append_assoc}
use Rattle.std.proofs.lemmas.List.{append_cancel_left, take-append-drop}
use Rattle.std.proofs.lemmas.Slice.Eq.{bytes_eq-Decides}
use Rattle.std.proofs.Math.Seq.{take-append_seam}
use Rattle.std.specs.Io.KnownBytes.{Consumes, Keeps}

-- one read after another
pub consumes_both : (before mid after : Option (List ℕ)) (xs ys : List ℕ) → Consumes before mid xs → Consumes mid after ys → Consumes before after (xs ++ ys)
consumes_both None mid after xs ys c d = tt
consumes_both (Some bs) None after xs ys c d = absurd c
consumes_both (Some bs) (Some cs) None xs ys c d = absurd d
consumes_both (Some bs) (Some cs) (Some ds) xs ys c d = c ∙ ap (λ ws. xs ++ ws) d ∙ sym (append_assoc xs ys ds)

-- a read that gave nothing
pub consumes_kept : (before mid after : Option (List ℕ)) (xs : List ℕ) → Consumes before mid xs → Keeps mid after → Consumes before after xs
consumes_kept None mid after xs c k = tt
consumes_kept (Some bs) None after xs c k = absurd c
consumes_kept (Some bs) (Some cs) None xs c k = absurd k
consumes_kept (Some bs) (Some cs) (Some ds) xs c k = c ∙ ap (λ ws. xs ++ ws) (sym k)

-- what is compared begins with what was read
pub read_more : (bytes sofar rest more after : List ℕ) → bytes ≡ sofar ++ rest → bytes_eq (take (length more) rest) more ≡ true
    → after ≡ drop (length more) rest → bytes ≡ (sofar ++ more) ++ after
read_more bytes sofar rest more after e same d =
    e ∙ ap (λ ws. sofar ++ ws) (sym (take-append-drop (length more) rest)
    ∙ ap (λ ws. ws ++ drop (length more) rest) ((bytes_eq-Decides (take (length more) rest) more).0 same) ∙ ap (λ ws. more ++ ws) (sym d))
    ∙ sym (append_assoc sofar more after)

-- what was read is not what is compared
pub read_another : (bytes sofar rest more : List ℕ) (before mid after : Option (List ℕ)) → bytes ≡ sofar ++ rest → Consumes before mid sofar
    → Consumes mid after more → bytes_eq (take (length more) rest) more ≡ false → IfSome before (λ all. IsTrue false ↔ (all ≡ bytes))
read_another bytes sofar rest more None mid after e c d other = tt
read_another bytes sofar rest more (Some xs) None after e c d other = absurd c
read_another bytes sofar rest more (Some xs) (Some ys) None e c d other = absurd d
read_another bytes sofar rest more (Some xs) (Some ys) (Some zs) e c d other = (
  (λ f. absurd (cc)),
  (λ is.
      let same : ys ≡ rest = append_cancel_left sofar ys rest (sym c ∙ is ∙ e) in
      let begins : take (length more) rest ≡ more = ap (take (length more)) (sym same ∙ d) ∙ take-append_seam more zs in
      let equal : bytes_eq (take (length more) rest) more ≡ true = (bytes_eq-Decides (take (length more) rest) more).1 begins in
      absurd (cc)),
)
