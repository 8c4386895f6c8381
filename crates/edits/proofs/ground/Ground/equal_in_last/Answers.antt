use Rattle.std.proofs.Common.{◌≡◌, ◌+◌, ◌<◌, ◌≤◌, ◌||◌, Bool, true, false, nat_eq, nat_lt, get_or, ap, ◌∙◌, sym, arith}
use Rattle.std.specs.List.{slice_get}
use Rattle.std.specs.Int.{bit_at}
use Rattle.std.proofs.lemmas.Bool.{eqb-true, ltb-true, lt-ltb}
use Rattle.std.proofs.lemmas.Bool.Decides.{nat_tests}
use Rattle.std.proofs.lemmas.Option.{slice_get-get_or, slice_get_past}
use Rattle.edits.specs.Joining.{is_value}
use Rattle.edits.proofs.Marking.{found-all, found-more, found-same, has_one}
use Rattle.edits.proofs.ground.Ground.equal_in_last.Goals as goal
use Rattle.edits.proofs.ground.Ground.equal_in_last.Goals.{then-eq, else-eq}

pub loop-i-preserved : goal.loop-i-preserved
loop-i-preserved c j l =
    let tiles = c.args.self.now.tiles.now in
    let value = c.args.self.now.value in
    let first = c.args.first in
    let i = c.loop-i.i in
    let test = is_value (slice_get tiles (first + j)) value in
    let own = c.index-self-first.result in
    let read : is_value (slice_get tiles (first + i)) value ≡ nat_eq (get_or tiles (first + i) own) value =
    ap (λ o. is_value o value) (slice_get-get_or tiles (first + i) own (omega arith)) in
    let same : c.eq.result ≡ nat_eq (get_or tiles (first + i) own) value = c.eq.ensures in
    let here = λ (b : Bool) (e : c.eq.result ≡ b) (k : i ≡ j). ap (λ n. is_value (slice_get tiles (first + n)) value) (sym k) ∙ read ∙ sym same ∙ e in
    elim c.if-eq.branch [
      | then-eq v ↦
          ap (λ n. nat_eq (bit_at n j) 1) v.bits-is ∙ has_one c.loop-i.bits i j (omega arith) l ∙ ap (λ b. b || nat_eq i j) (c.loop-i.invariant j l)
          ∙ found-more (nat_lt j i) test (nat_eq i j) (nat_lt j (i + 1))
          (λ h. let before = ltb-true j i h in (let differ : nat_eq i j ≡ false = grind (arith, nat_tests) in differ, lt-ltb j (i + 1) (omega arith)))
          (λ h. let k = eqb-true i j h in (here true v.if-eq.true k, lt-ltb j (i + 1) (omega arith)))
          (λ a e b. absurd (let under = ltb-true j (i + 1) b in let past : i < j = grind (arith, nat_tests) in omega arith))
      | else-eq v ↦
          ap (λ n. nat_eq (bit_at n j) 1) v.bits-is ∙ c.loop-i.invariant j l
          ∙ found-same (nat_lt j i) test (nat_lt j (i + 1)) (λ h. let before = ltb-true j i h in lt-ltb j (i + 1) (omega arith))
          (λ a b. let under = ltb-true j (i + 1) b in let k : i ≡ j = grind (arith, nat_tests) in here false v.if-eq.false k)
    ]

pub returns : goal.returns
returns c j l =
    let tiles = c.args.self.now.tiles.now in
    let first = c.args.first in
    c.loop-i.invariant j l
    ∙ found-all (nat_lt j c.loop-i.i) (is_value (slice_get tiles (first + j)) c.args.self.now.value)
    (λ h. let past : c.loop-i.i ≤ j = grind (arith, nat_tests) in
    ap (λ o. is_value o c.args.self.now.value) (slice_get_past tiles (first + j) (omega (arith, c.min-count.ensures, c.saturating_sub.ensures))))
