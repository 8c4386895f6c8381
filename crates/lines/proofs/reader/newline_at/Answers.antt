use Rattle.std.proofs.Common.{◌≡◌, ◌≤◌, arith, drop, take, map, length}
use Rattle.std.proofs.lemmas.List.{length-drop}
use Rattle.std.specs.Simd.Lanes.{mask_l}
use Rattle.memchr.specs.Find.{NoneBefore, Nowhere, Passes, is_byte}
use Rattle.lines.proofs.Newlines.{newline, first_is, first_is_none, first_near, first_far, first_on, behind}
use Rattle.lines.proofs.reader.newline_at.Goals as goal

pub returns-then-bits-ne0-clause-offset : goal.returns-then-bits-ne0-clause-offset
returns-then-bits-ne0-clause-offset c =
    let rest = drop c.loop-seen.seen c.args.bytes.now in
    let mask : c.newline_bits-bits.result ≡ mask_l (map newline (take 32 rest)) =
    rw (behind c.args.bytes.now c.loop-seen.seen) at c.newline_bits-bits.ensures.mask in
    let near = first_near rest 32 c.newline_bits-bits.result mask (omega (arith, c.if-bits-ne0.true)) c.newline_bits-bits.ensures.small in
    omega (arith, near.0, c.loop-seen.invariant.first)

pub returns-then-bits-ne0-clause-within : goal.returns-then-bits-ne0-clause-within
returns-then-bits-ne0-clause-within c =
    let rest = drop c.loop-seen.seen c.args.bytes.now in
    let mask : c.newline_bits-bits.result ≡ mask_l (map newline (take 32 rest)) =
    rw (behind c.args.bytes.now c.loop-seen.seen) at c.newline_bits-bits.ensures.mask in
    let near = first_near rest 32 c.newline_bits-bits.result mask (omega (arith, c.if-bits-ne0.true)) c.newline_bits-bits.ensures.small in
    omega (arith, near.1, length-drop c.loop-seen.seen c.args.bytes.now, c.loop-seen.invariant.within)

pub loop-seen-preserved : goal.loop-seen-preserved
loop-seen-preserved c =
    let bytes = c.args.bytes.now in
    let seen = c.loop-seen.seen in
    let rest = drop seen bytes in
    let mask : c.newline_bits-bits.result ≡ mask_l (map newline (take 32 rest)) = rw (behind bytes seen) at c.newline_bits-bits.ensures.mask in
    let room : 32 ≤ length rest = omega (arith, c.loop-seen-test.true, length-drop seen bytes, c.loop-seen.invariant.within) in
    record {
      within = omega (arith, c.loop-seen-test.true, c.loop-seen.invariant.within);
      first = first_on bytes seen 32 c.loop-seen.invariant.first (first_far rest 32 c.newline_bits-bits.result room mask c.if-bits-ne0.false);
    }

pub returns-in-Some-clause-offset : goal.returns-in-Some-clause-offset
returns-in-Some-clause-offset c =
    let rest = drop c.loop-seen.seen c.args.bytes.now in
    let found : NoneBefore (Passes (is_byte 10) rest) 0 (length rest) c.in-Some.n × Passes (is_byte 10) rest c.in-Some.n =
    rw (behind c.args.bytes.now c.loop-seen.seen) at c.in-Some.ensures in
    omega (arith, first_is rest c.in-Some.n found, c.loop-seen.invariant.first)

pub returns-in-None-clause-offset : goal.returns-in-None-clause-offset
returns-in-None-clause-offset c =
    let rest = drop c.loop-seen.seen c.args.bytes.now in
    let none : Nowhere (Passes (is_byte 10) rest) 0 (length rest) = rw (behind c.args.bytes.now c.loop-seen.seen) at c.in-None.ensures in
    omega (arith, first_is_none rest none, length-drop c.loop-seen.seen c.args.bytes.now, c.loop-seen.invariant.within, c.loop-seen.invariant.first)
