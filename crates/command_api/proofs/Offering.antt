-- What a command shows, as the law of offers asks for it.
use Rattle.std.proofs.Common.{◌≡◌, true, false, true≢false, None, refl, sym, ◌∙◌}
use Rattle.map_model.specs.Document.{DocumentParts}
use Rattle.command_api.specs.Law.{Change}
use Rattle.command_api.specs.Offers.{FitsOffer, IsOfferOf, Shown, Nothing, offer_tag, offer_undone}

-- one that does not follow shows nothing
pub nothing-offered : (c : Change) → c.names.follows ≡ false → IsOfferOf c Nothing
nothing-offered c alone = record {
  nothing = (λ e. refl, λ e. alone);
  tag = λ e. absurd (true≢false (sym e ∙ alone));
  fits = λ d e f. absurd (true≢false (sym e ∙ alone));
  undone = λ d e f. absurd (true≢false (sym e ∙ alone));
}

-- one that follows shows its tag and its undo
pub follower-offered : (c : Change) (o : Shown) → c.names.follows ≡ true → offer_tag o ≡ c.names.tag → (offer_tag o ≡ None → ⊥)
    → ((d : DocumentParts) → c.fits_undo d → FitsOffer o d × (offer_undone o d ≡ c.undone d)) → IsOfferOf c o
follower-offered c o follows tag some undoes = record {
  nothing = (λ e. absurd (true≢false (sym follows ∙ e)), λ e. absurd (some e));
  tag = λ e. tag;
  fits = λ d e f. (undoes d f).0;
  undone = λ d e f. (undoes d f).1;
}
