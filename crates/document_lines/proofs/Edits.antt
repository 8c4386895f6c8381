-- Planned edits, and the lines that ask for them.
use Rattle.std.proofs.Common.{◌≡◌, ℕ, ◌+◌, ◌^◌, ◌<◌, ◌≤◌, List, [], ◌∷◌, length, map, Result, Ok, Err, Bool, inl, inr, refl, sym, ap, subst, arith}
use Rattle.std.proofs.Common.{length-append}
use Rattle.std.proofs.lemmas.List.{length-map}
use Rattle.std.specs.Prelude.{ℤ, decimal, codes, IfOk, IfErr, MatchResult, IsOkAnd}
use Rattle.std.specs.Fmt.{signed_decimal}
use Rattle.std.specs.List.{join_with_byte}
use Rattle.map_model.specs.Document.{DocumentParts}
use Rattle.map_model.specs.WellFormed.{IsPixels}
use Rattle.edits.specs.Stamping.{IsBlock}
use Rattle.refusals.specs.declared.edit_fault.EditFault.{EditFault}
use Rattle.refusals.specs.declared.edit_fault.EditFault.TheVariants.{NoMemory}
use Rattle.refusals.specs.Layers.{refusal_of_edit}
use Rattle.command_api.specs.Names.{Names}
use Rattle.command_api.specs.Making.{IsRefusalOf, Makes}
use Rattle.session.specs.declared.limits.TheConstants.{MAX_LINE}
use Rattle.session.specs.declared.line.Line.TheVariants.{Stamp}
use Rattle.session.specs.Spelling.{AreRows, CanBeSpelled, IsCoordinate, commas, leading, spelling}
use Rattle.document_lines.specs.declared.planned.Edit.{Edit}
use Rattle.document_lines.specs.Acts.{answer_of}
use Rattle.document_lines.specs.Planning.{PlansEdit, edit_change, plan_of}

-- an edit that was made, or refused, is planned so
pub made-PlansEdit : (names : Names) (d : DocumentParts) (after : Result DocumentParts EditFault) (edit : Result Edit EditFault)
    → IfOk edit (λ e. Makes names d after (edit_change e)) → IfErr edit (IsRefusalOf after) → PlansEdit (answer_of names after) d (plan_of edit)
made-PlansEdit names d after (Ok edit) is r = (rw (is.document, is.names) refl, is.fits)
made-PlansEdit names d after (Err NoMemory) is r = inl refl
made-PlansEdit names d after (Err fault) is r = inr (refusal_of_edit fault, ap (answer_of names) r, refl)

-- a command that was made, or refused, and then put into an edit
pub mapped-PlansEdit : {K : Type 0} (wrap : K → Edit) (names : Names) (d : DocumentParts) (after : Result DocumentParts EditFault) (made : Result K EditFault)
    (edit : Result Edit EditFault)
    → IfOk made (λ k. Makes names d after (edit_change (wrap k))) → IfErr made (IsRefusalOf after)
    → MatchResult made (λ k. IsOkAnd edit (λ e. e ≡ wrap k)) (λ e. edit ≡ Err e) → PlansEdit (answer_of names after) d (plan_of edit)
mapped-PlansEdit wrap names d after (Ok k) (Ok e) is r m =
    let P : Edit → Type 0 = λ x. PlansEdit (answer_of names after) d (plan_of (Ok x)) in
    subst P (sym m) (made-PlansEdit names d after (Ok (wrap k)) is tt)
mapped-PlansEdit wrap names d after (Ok k) (Err e) is r m = absurd m
mapped-PlansEdit wrap names d after (Err fault) edit is r m =
    let P : Result Edit EditFault → Type 0 = λ x. PlansEdit (answer_of names after) d (plan_of x) in
    subst P (sym m) (made-PlansEdit names d after (Err fault) tt r)

-- a command that takes no memory, and so is refused exactly as its edit is, and was then put into an edit
pub exact-PlansEdit : {K : Type 0} (wrap : K → Edit) (names : Names) (d : DocumentParts) (after : Result DocumentParts EditFault) (made : Result K EditFault)
    (edit : Result Edit EditFault)
    → IfOk made (λ k. Makes names d after (edit_change (wrap k))) → IfErr made (λ fault. after ≡ Err fault)
    → MatchResult made (λ k. IsOkAnd edit (λ e. e ≡ wrap k)) (λ e. edit ≡ Err e) → PlansEdit (answer_of names after) d (plan_of edit)
exact-PlansEdit wrap names d after (Ok k) (Ok e) is r m =
    let P : Edit → Type 0 = λ x. PlansEdit (answer_of names after) d (plan_of (Ok x)) in
    subst P (sym m) (made-PlansEdit names d after (Ok (wrap k)) is tt)
exact-PlansEdit wrap names d after (Ok k) (Err e) is r m = absurd m
exact-PlansEdit wrap names d after (Err fault) edit is r m =
    let P : Result Edit EditFault → Type 0 = λ x. PlansEdit (answer_of names after) d (plan_of x) in
    subst P (sym m) (inr (refusal_of_edit fault, ap (answer_of names) r, refl))

-- a coordinate is a number of pixels that an object can have
pub coordinate-IsPixels : (z : ℤ) → IsCoordinate z → IsPixels z
coordinate-IsPixels z h = record { low = h.low; high = h.high }

-- ---- the values of a line
length-join : (b : ℕ) (ws : List (List ℕ)) → length ws ≤ length (join_with_byte b ws) + 1
length-join b [] = omega arith
length-join b (w ∷ []) = omega arith
length-join b (w ∷ v ∷ ws) =
    let rest = length-join b (v ∷ ws) in
    omega (arith, length-append w (b ∷ join_with_byte b (v ∷ ws)))

length-join_rest : (b : ℕ) (w v : List ℕ) (ws : List (List ℕ)) → length (join_with_byte b (v ∷ ws)) ≤ length (join_with_byte b (w ∷ v ∷ ws))
length-join_rest b w v ws = omega (arith, length-append w (b ∷ join_with_byte b (v ∷ ws)))

-- a line is short, so its values are few
values-few : (layer : ℕ) (x y : ℤ) (width : ℕ) (values : List ℕ) (follows : Bool) → CanBeSpelled (Stamp layer x y width values follows) → length values < 2 ^ 32
values-few layer x y width values follows h =
    let many = length-join 44 (map decimal values) in
    let same : length (map decimal values) ≡ length values = length-map values decimal in
    let last = length-join_rest 32 (decimal width) (commas values) [] in
    let row = length-join_rest 32 (signed_decimal y) (decimal width) (commas values ∷ []) in
    let column = length-join_rest 32 (signed_decimal x) (signed_decimal y) (decimal width ∷ commas values ∷ []) in
    let id = length-join_rest 32 (decimal layer) (signed_decimal x) (signed_decimal y ∷ decimal width ∷ commas values ∷ []) in
    let all = length-join_rest 32 (leading (codes "stamp") follows) (decimal layer)
    (signed_decimal x ∷ signed_decimal y ∷ decimal width ∷ commas values ∷ []) in
    let short : length (spelling (Stamp layer x y width values follows)) ≤ MAX_LINE = h.1 refl in
    omega (arith, short)

-- its values are a block
pub stamp-IsBlock : (layer : ℕ) (x y : ℤ) (width : ℕ) (values : List ℕ) (follows : Bool) → CanBeSpelled (Stamp layer x y width values follows)
    → IsBlock (record { x = x; y = y; width = width; values = values })
stamp-IsBlock layer x y width values follows h =
    let rows : AreRows width values = h.0.1.1.1.1.0 in
    record { wide = rows.some; narrow = rows.narrow; whole = rows.rows; few = values-few layer x y width values follows h }
