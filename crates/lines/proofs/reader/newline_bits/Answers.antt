use Rattle.std.proofs.Common.{eqb, arith, w8}
use Rattle.std.proofs.lemmas.List.{length-take}
use Rattle.std.proofs.lemmas.Simd.{bitmask_splat}
use Rattle.std.proofs.Common.{take}
use Rattle.lines.proofs.reader.newline_bits.Goals as goal

pub returns-clause-mask : goal.returns-clause-mask
returns-clause-mask c = bitmask_splat w8 eqb (take 32 c.args.bytes.now) 32 10 (omega (arith, length-take 32 c.args.bytes.now, c.requires)) (omega arith)
