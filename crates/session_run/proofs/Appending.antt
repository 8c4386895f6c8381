-- One write after another.
use Rattle.std.specs.Prelude.{◌==◌}
use Rattle.std.proofs.Common.{◌≡◌, ℕ, List, [], ◌∷◌, ◌++◌, length, take, drop, Option, Some, None, sym, ap, ◌∙◌, append_assoc, arith}
use Rattle.std.specs.Io.KnownBytes.{Appends}
use Rattle.std.proofs.Common.{Result, Ok, Err, OnErr, OnOk, true, false}
use Rattle.std.specs.Result.{is_err}
use Rattle.session.specs.declared.reply.Reply.{Reply}
use Rattle.session.specs.Replies.{reply_text}
use Rattle.session_run.specs.Runs.{TakesBeginning, reply_line}
use Rattle.std.proofs.lemmas.Bool.{eqb-true}
use Rattle.std.proofs.lemmas.List.{append-nil, length-append, nil_from_length, take-append-drop}

pub appends_more : (a b c : Option (List ℕ)) (xs ys : List ℕ) → Appends a b xs → Appends b c ys → Appends a c (xs ++ ys)
appends_more None b c xs ys h k = tt
appends_more (Some old) None c xs ys h k = absurd h
appends_more (Some old) (Some bs) None xs ys h k = k
appends_more (Some old) (Some bs) (Some cs) xs ys h k = k ∙ ap (λ zs. zs ++ ys) h ∙ append_assoc old xs ys

-- the next write takes n of the bytes that are left
pub takes_more : (a b c : Option (List ℕ)) (whole beginning rest : List ℕ) (n : ℕ) → whole ≡ beginning ++ rest → Appends a b beginning
    → Appends b c (take n rest) → (more : List ℕ) × (whole ≡ more ++ drop n rest) × Appends a c more
takes_more a b c whole beginning rest n e h k = (
  beginning ++ take n rest,
  e ∙ ap (λ zs. beginning ++ zs) (sym (take-append-drop n rest))
      ∙ sym (append_assoc beginning (take n rest) (drop n rest)),
  appends_more a b c beginning (take n rest) h k,
)

-- a beginning of the first bytes is one of all
pub beginning_of_first : (a b : Option (List ℕ)) (xs ys : List ℕ) → TakesBeginning xs a b → TakesBeginning (xs ++ ys) a b
beginning_of_first a b xs ys p = (p.0, p.1 ++ ys, omega (arith, p.2, length-append p.1 ys), ap (λ zs. zs ++ ys) p.3 ∙ append_assoc p.0 p.1 ys, p.4)

-- the first bytes were taken, and a beginning of those behind them
pub beginning_of_second : (a b c : Option (List ℕ)) (xs ys : List ℕ) → Appends a b xs → TakesBeginning ys b c → TakesBeginning (xs ++ ys) a c
beginning_of_second a b c xs ys h p = (xs ++ p.0, p.1, p.2, ap (λ zs. xs ++ zs) p.3 ∙ sym (append_assoc xs p.0 p.1), appends_more a b c xs p.0 h p.4)

pub appends_nothing : (a : Option (List ℕ)) → Appends a a []
appends_nothing None = tt
appends_nothing (Some bytes) = sym (append-nil bytes)

pub at_ok : {T E P : Type 0} (r : Result T E) → is_err r ≡ false → OnOk r P → P
at_ok (Ok x) h p = p
at_ok (Err e) h p = absurd cc

pub at_err : {T E P : Type 0} (r : Result T E) → is_err r ≡ true → OnErr r P → P
at_err (Ok x) h p = absurd cc
at_err (Err e) h p = p

pub no_bytes : (bytes : List ℕ) → (length bytes == 0) ≡ true → bytes ≡ []
no_bytes bytes h = nil_from_length bytes (eqb-true (length bytes) 0 h)

-- a head with no body behind it is the whole reply
pub head_line : (reply : Reply) (head body : List ℕ) → head ++ body ≡ reply_text reply → body ≡ [] → head ++ 10 ∷ [] ≡ reply_line reply
head_line reply head body text none = ap (λ bytes. bytes ++ 10 ∷ []) (sym (append-nil head) ∙ ap (λ bytes. head ++ bytes) (sym none) ∙ text)
