-- Exchanges: changes that are their own reverse.
--
-- What a command holds and a part of the document change places. So redo and undo are the same call, and one fact about
-- it serves both. One that knows whether it is made is ready for one of the two alone.
use Rattle.std.specs.Prelude.{◌≡◌, Bool, true, false, not, Option, Some}
use Rattle.std.specs.Option.{option_map}
use Rattle.map_model.specs.Document.{DocumentParts}
use Rattle.command_api.specs.Law.{Change}
use Rattle.command_api.specs.Names.{Names, IsSettled}
use Rattle.command_api.specs.Tag.{id_of}
use Rattle.command_api.specs.declared.exchange.Label.{Label}

-- what an exchange is: its names, whether it is obsolete, whether it is made, where it knows that, the documents that it
-- fits, and what they turn to
pub record Exchange : Type 1 where
  pub names : Names
  pub obsolete : Bool
  pub made : Option Bool
  pub exchanged : DocumentParts → DocumentParts
  pub fits : DocumentParts → Type 0

-- the label has these names
pub record IsLabelOf (names : Names) (l : Label) : Type 0 where
  pub text : l.text.now ≡ names.text
  pub action : l.action.now ≡ names.action
  pub id : l.id ≡ id_of names.tag

-- the exchange fits the document, and is obsolete exactly as its vanishing says
pub record FitsExchange (x : Exchange) (d : DocumentParts) : Type 0 where
  pub fits : x.fits d
  pub settled : IsSettled x.names.vanishing x.obsolete d (x.exchanged d)

-- a call made the exchange v the exchange w, and the document d the document e; w would give d back
pub record IsExchanged (v w : Exchange) (d e : DocumentParts) : Type 0 where
  pub document : e ≡ v.exchanged d
  pub fits : w.fits e
  pub back : w.exchanged e ≡ d
  pub names : w.names ≡ v.names
  pub obsolete : w.obsolete ≡ v.obsolete
  pub made : w.made ≡ option_map not v.made

-- one that knows that it is made fits no document for redo, and one that knows that it is not made none for undo
abbrev pub FitsTurn : Bool → Exchange → DocumentParts → Type 0
FitsTurn made x d = (x.made ≡ Some made → ⊥) × FitsExchange x d

-- the change that an exchange makes
abbrev pub change_of : Exchange → Change
change_of x = record {
  names = x.names;
  obsolete = x.obsolete;
  redone = x.exchanged;
  undone = x.exchanged;
  fits_redo = FitsTurn true x;
  fits_undo = FitsTurn false x;
}
