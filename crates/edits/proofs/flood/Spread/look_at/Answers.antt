use Rattle.std.proofs.Common.{◌+◌, ◌*◌, ◌&&◌, nat_eq, refl, ap, ◌∙◌, sym, arith}
use Rattle.std.specs.Int.{bit_at}
use Rattle.std.proofs.lemmas.Nat.Bits.{bit_at-zero}
use Rattle.edits.specs.declared.flood.Spread.{Spread}
use Rattle.edits.specs.Marks.{is_marked}
use Rattle.edits.proofs.Marking.{has_and}
use Rattle.edits.proofs.Spreading.{IsSound-seen, Spreads-seen, seen-not_both}
use Rattle.edits.proofs.flood.Spread.look_at.Goals as goal

pub returns-then-unseen-ne0-clause-sound : goal.returns-then-unseen-ne0-clause-sound
returns-then-unseen-ne0-clause-sound c =
    let s = c.args.self.now in
    let t : Spread = record {
      «open» = c.set_word.new.self;
      taken = c.set_word-then-unseen-ne0.new.self;
      count = s.count;
      first = s.first;
      end = s.end;
      pending = s.pending;
    } in
    IsSound-seen c.args.ground.now s t c.args.word c.word-open.result c.word-taken.result c.equal_bits-equal.result
    (omega arith) c.word-open.ensures c.word-taken.ensures c.equal_bits-equal.ensures
    c.set_word.ensures.marks c.set_word-then-unseen-ne0.ensures.marks c.set_word.ensures.room c.set_word-then-unseen-ne0.ensures.room refl refl refl
    c.requires.sound

pub returns-then-unseen-ne0-clause-spreads : goal.returns-then-unseen-ne0-clause-spreads
returns-then-unseen-ne0-clause-spreads c =
    let s = c.args.self.now in
    let t : Spread = record {
      «open» = c.set_word.new.self;
      taken = c.set_word-then-unseen-ne0.new.self;
      count = s.count;
      first = s.first;
      end = s.end;
      pending = s.pending;
    } in
    Spreads-seen c.args.ground.now s t c.args.word c.word-open.result c.word-taken.result c.equal_bits-equal.result
    (omega arith) c.word-open.ensures c.word-taken.ensures c.equal_bits-equal.ensures
    c.set_word.ensures.marks c.set_word-then-unseen-ne0.ensures.marks c.set_word.ensures.room c.set_word-then-unseen-ne0.ensures.room refl refl refl
    c.requires.sound

pub returns-then-unseen-ne0-clause-seen : goal.returns-then-unseen-ne0-clause-seen
returns-then-unseen-ne0-clause-seen c =
    let s = c.args.self.now in
    let t : Spread = record {
      «open» = c.set_word.new.self;
      taken = c.set_word-then-unseen-ne0.new.self;
      count = s.count;
      first = s.first;
      end = s.end;
      pending = s.pending;
    } in
    seen-not_both c.args.ground.now s t c.args.word c.word-open.result c.word-taken.result c.equal_bits-equal.result
    (omega arith) c.word-open.ensures c.word-taken.ensures c.equal_bits-equal.ensures
    c.set_word.ensures.marks c.set_word-then-unseen-ne0.ensures.marks c.set_word.ensures.room c.set_word-then-unseen-ne0.ensures.room refl refl refl
    c.requires.sound

pub returns-else-unseen-ne0-clause-seen : goal.returns-else-unseen-ne0-clause-seen
returns-else-unseen-ne0-clause-seen c i l =
    let s = c.args.self.now in
    let p = 64 * c.args.word + i in
    ap (λ b. b && is_marked s.taken p) (sym (c.word-open.ensures i l)) ∙ ap (λ b. nat_eq (bit_at c.word-open.result i) 1 && b) (sym (c.word-taken.ensures i l))
    ∙ sym (has_and c.word-open.result c.word-taken.result i) ∙ ap (λ n. nat_eq (bit_at n i) 1) c.if-unseen-ne0.false ∙ ap (λ n. nat_eq n 1) (bit_at-zero i)
