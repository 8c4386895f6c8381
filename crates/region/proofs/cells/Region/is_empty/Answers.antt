use Rattle.std.proofs.Common.{◌≡◌, ℕ, [], true, nat_eq, length, sym, ap, ◌∙◌, arith}
use Rattle.std.proofs.lemmas.Bool.Decides.{nat_tests}
use Rattle.std.proofs.lemmas.List.{nil_from_length}
use Rattle.region.specs.Cells.{set_of}
use Rattle.region.proofs.Listed.{set_of-empty}
use Rattle.region.proofs.cells.Region.is_empty.Goals as goal

none : (n : ℕ) → nat_eq n 0 ≡ true → n ≡ 0
none n h = grind (arith, nat_tests)

some : (n : ℕ) → n ≡ 0 → nat_eq n 0 ≡ true
some n h = grind (arith, nat_tests)

pub returns : goal.returns
returns c =
    let runs = c.self.inside.runs in (
      λ yes.
          let nil : runs.items ≡ [] = nil_from_length runs.items (sym runs.ok.0 ∙ none runs.len (sym c.is_empty.ensures ∙ yes)) in
          sym c.self.view_is ∙ ap set_of nil,
      λ is.
          let nil : runs.items ≡ [] = set_of-empty runs.items c.self.invariant (c.self.view_is ∙ is) in
          c.is_empty.ensures ∙ some runs.len (runs.ok.0 ∙ ap length nil),
    )
