use Rattle.std.proofs.Common.{ℕ, List, ◌++◌, Bor, nat_cmp, is_eq, sym, ap, ◌∙◌, bytes_eq}
use Rattle.std.specs.Prelude.{is_none}
use Rattle.std.specs.Cmp.Lexicographic.{slice_cmp}
use Rattle.std.proofs.lemmas.List.{append-nil}
use Rattle.std.specs.List.{flat_map}
use Rattle.map_model.specs.WellFormed.{names_of_property}
use Rattle.map_json.specs.Distinctness.{are_distinct}
use Rattle.map_json.proofs.Meetings.{texts_of, are_distinct-texts}
use Rattle.map_json.proofs.doubles.names_are_distinct.Goals as goal

pub returns-in-Some-2 : goal.returns-in-Some-2
returns-in-Some-2 g c =
    let names = c.loop-property.names.items in
    let all = sym (append-nil (texts_of names)) ∙ (sym (ap (λ ps. texts_of names ++ flat_map names_of_property ps) c.in-None.ensures.steps.0)
    ∙ c.loop-property.invariant) in
    let whole = ap (are_distinct (λ (a b : Bor (List ℕ)). is_eq (slice_cmp nat_cmp a.now b.now))) c.deref.ensures.value
    ∙ (are_distinct-texts names ∙ ap (are_distinct bytes_eq) all) in
    sym (ap is_none c.in-Some-2.is) ∙ (c.in_ok-at.ensures ∙ whole)

pub returns : goal.returns
returns g c =
    let names = c.loop-property.names.items in
    let all = sym (append-nil (texts_of names)) ∙ (sym (ap (λ ps. texts_of names ++ flat_map names_of_property ps) c.in-None.ensures.steps.0)
    ∙ c.loop-property.invariant) in
    let whole = ap (are_distinct (λ (a b : Bor (List ℕ)). is_eq (slice_cmp nat_cmp a.now b.now))) c.deref.ensures.value
    ∙ (are_distinct-texts names ∙ ap (are_distinct bytes_eq) all) in
    sym (ap is_none c.in-None-2.is) ∙ (c.in_ok-at.ensures ∙ whole)
