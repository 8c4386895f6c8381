-- A command of a test, which changes nothing. It is free, and over once no turn is left.
use Rattle.std.specs.Prelude.{ℕ, [], nat_eq}
use Rattle.map_model.specs.Document.{DocumentParts}
use Rattle.command_api.specs.Law.{Change}
use Rattle.command_api.specs.Names.{Free, untagged}

-- each document is one that it fits
pub record FitsEach (d : DocumentParts) : Type 0 where
  pub fits : Unit {0}

-- a change that leaves each document as it is, with so many turns left
abbrev pub fading : ℕ → Change
fading left = record {
  names = untagged [] [] Free;
  obsolete = nat_eq left 0;
  redone = λ d. d;
  undone = λ d. d;
  fits_redo = FitsEach;
  fits_undo = FitsEach;
}
