-- The word of a fault is the one at which the line is refused.
use Rattle.std.proofs.Common.{◌≡◌, ℕ, Bool, true, false, is_some, List, Option, Some, None, IfSome, sym, subst}
use Rattle.session.specs.declared.word_faults.WordFault.{WordFault}
use Rattle.roskevad_c.specs.declared.word_faults.FaultyWord.{FaultyWord}
use Rattle.roskevad_c.specs.WordFaults.{GivesFault, TellsWordIf}

pub gives-tells : (fault : Option WordFault) (refused : Bool) (IsPlace : ℕ → Type 0) (answer : ℕ) (word new : FaultyWord) (text after : List ℕ)
    → is_some fault ≡ refused → IfSome fault (λ f. IsPlace f.place) → GivesFault fault answer word new text after
    → TellsWordIf refused IsPlace answer word new text after
gives-tells None true IsPlace answer word new text after e at g = cc
gives-tells None false IsPlace answer word new text after e at g = g
gives-tells (Some fault) true IsPlace answer word new text after e at g = (subst IsPlace (sym g.0) at, g.1)
gives-tells (Some fault) false IsPlace answer word new text after e at g = cc
