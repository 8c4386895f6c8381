-- What is told as far as a map has cells.
use Rattle.std.proofs.Common.{◌≡◌, ℕ, ◌+◌, ◌-◌, ◌<◌, ℤ, pos, negsuc, ◌+ℤ◌, ◌-ℤ◌, ◌≤ℤ◌, ◌^◌, Bor, Option, None, Some, IfSome, IsTrue, sym}
use Rattle.std.proofs.Common.{◌≤◌, ◌∙◌, Bool, true, false, cond, refl, subst, arith}
use Rattle.std.specs.Prelude.{nat_le}
use Rattle.std.specs.Int.{FitsUnsignedBits, int_max, int_min}
use Rattle.std.specs.Option.{option_map}
use Rattle.std.proofs.lemmas.Bool.Decides.{nat_tests}
use Rattle.std.proofs.lemmas.Int.{clamps, ints}
use Rattle.map_model.specs.Document.{DocumentParts}
use Rattle.map_model.specs.declared.parts.MapParts.{MapParts}
use Rattle.edits.specs.Blocks.{is_below, offset}
use Rattle.undo_stack.specs.History.{History, current, document_at}
use Rattle.undo_stack.specs.Stacks.{Holds, history}
use Rattle.undo_stack.specs.declared.stack.Stack.{Stack}
use Rattle.document_lines.specs.declared.differences.Differences.{Differences}
use Rattle.document_lines.specs.declared.planned.Edit.{Edit}
use Rattle.document_lines.specs.Differing.{DifferWithin}
use Rattle.document_lines.specs.Planning.{edit_change}
use Rattle.document_lines.proofs.ToldAreas.{from-below}
use Rattle.memory_editor.specs.Unions.{DifferOn, TellsCellsOf, TellsTurn}

-- columns, or rows, from one on
below-from : (first at count : ℕ) → IsTrue (is_below (offset (pos first) at) count) → (first ≤ at) × (at < first + count)
below-from first at count h = by_test (nat_le first at) refl h
  where
    by_test : (b : Bool) → nat_le first at ≡ b → IsTrue (is_below (cond b (Some (at - first)) None) count) → (first ≤ at) × (at < first + count)
    by_test true e k =
        let l : first ≤ at = grind (arith, nat_tests) in
        let m : at - first < count = grind (arith, nat_tests) in
        (l, omega arith)
    by_test false e k = absurd (let worse : ⊥ = cc in worse)

-- the same as far as there are so many
pub columns-within : (from first end : ℤ) (count all within : ℕ) → first ≡ int_max from (pos 0) → end ≡ int_min (from +ℤ pos count) (pos all)
    → pos within ≡ end -ℤ first → (at : ℕ) → at < all → IsTrue (is_below (offset from at) count) → IsTrue (is_below (offset first at) within)
columns-within (pos s) first end count all within begins ends e at l h =
    let own = below-from s at count h in
    let same : first ≡ pos s = omega (arith, ints, clamps, begins) in
    let inside : at < s + within = omega (arith, ints, clamps, begins, ends, e, own.0, own.1, l) in
    rw same (from-below s at within own.0 inside)
columns-within (negsuc s) first end count all within begins ends e at l h =
    let own : at + (s + 1) < count = grind (arith, nat_tests) in
    let same : first ≡ pos 0 = omega (arith, ints, clamps, begins) in
    let inside : at < 0 + within = omega (arith, ints, clamps, begins, ends, e, own, l) in
    rw same (from-below 0 at within (omega arith) inside)

in-range : (z : ℤ) → pos 0 ≤ℤ z → z ≤ℤ pos (2 ^ 32 - 1) → FitsUnsignedBits 32 z
in-range (pos n) low high = omega (arith, ints, high)
in-range (negsuc n) low high = absurd (omega (arith, ints, low))

-- where there are columns, they can be counted
pub some-columns : (from first end : ℤ) (count all at : ℕ) → first ≡ int_max from (pos 0) → end ≡ int_min (from +ℤ pos count) (pos all) → all < 2 ^ 32
    → at < all → IsTrue (is_below (offset from at) count) → FitsUnsignedBits 32 (end -ℤ first)
some-columns (pos s) first end count all at begins ends few l h =
    let own = below-from s at count h in
    in-range (end -ℤ first) (omega (arith, ints, clamps, begins, ends, own.0, own.1, l)) (omega (arith, ints, clamps, begins, ends, own.0, own.1, l, few))
some-columns (negsuc s) first end count all at begins ends few l h =
    let own : at + (s + 1) < count = grind (arith, nat_tests) in
    in-range (end -ℤ first) (omega (arith, ints, clamps, begins, ends, own, l)) (omega (arith, ints, clamps, begins, ends, own, l, few))

-- what is told as far as the map has cells
pub on-map : (m : MapParts) (wide told : Differences) → told.outline ≡ wide.outline → told.selection ≡ wide.selection → TellsCellsOf m wide.cells told.cells
    → (d e : DocumentParts) → DifferWithin wide d e → DifferOn m told d e
on-map m wide told outline selection cells d e h = record {
  outline = λ not. h.outline (sym outline ∙ not);
  selection = λ not. h.selection (sym selection ∙ not);
  layers = λ some. h.layers (λ all. some (cells.all all));
  cells = λ id x y left below not. h.cells id x y (λ is. not (cells.one id x y left below is));
}

-- what is told of a turn of the active document
pub told-turned : (r : Option (Bor (Stack Edit))) (active : Option History) (wide told : Differences) (first now : ℕ)
    → option_map (λ s. history edit_change s.now) r ≡ active → IfSome r (λ s. Holds edit_change s.now) → IfSome r (λ s. TellsTurn s.now first now wide)
    → told.outline ≡ wide.outline → told.selection ≡ wide.selection
    → IfSome (option_map (λ (h : History). (current h).map) active) (λ m. TellsCellsOf m wide.cells told.cells)
    → IfSome active (λ h. DifferOn (current h).map told (document_at h first) (document_at h now))
told-turned None active wide told first now e held turn outline selection cells =
    subst (λ (a : Option History). IfSome a (λ h. DifferOn (current h).map told (document_at h first) (document_at h now))) e tt
told-turned (Some s) active wide told first now e held turn outline selection cells =
    let h = history edit_change s.now in
    let own : TellsCellsOf (current h).map wide.cells told.cells =
    subst (λ (a : Option History). IfSome (option_map (λ (n : History). (current n).map) a) (λ m. TellsCellsOf m wide.cells told.cells)) (sym e) cells in
    subst (λ (a : Option History). IfSome a (λ n. DifferOn (current n).map told (document_at n first) (document_at n now))) e
    (on-map (current h).map wide told outline selection own (document_at h first) (document_at h now) (turn held))
