-- The notes of layers, and of those that stand in them.
use Rattle.std.proofs.Common.{◌≡◌, ◌≢◌, ℕ, zero, suc, ◌-◌, List, [], ◌∷◌, ◌++◌, append_assoc, append-nil, Option, Some, None, refl, sym, ap, ◌∙◌, arith}
use Rattle.std.specs.List.{flat_map}
use Rattle.std.specs.Option.{option_map_or}
use Rattle.std.proofs.lemmas.Grind.{flat_map-append}
use Rattle.infinite_maps.specs.declared.margin.Margin.{Margin}
use Rattle.map_model.specs.declared.parts.Body.{Body}
use Rattle.map_model.specs.declared.parts.Body.TheVariants.{Group'}
use Rattle.map_model.specs.declared.parts.Layer.{Layer}
use Rattle.map_model.specs.Bodies.{tiles_or_none}
use Rattle.map_model.specs.Groups.{bare, body_with_layers, drawn, group_of, inside, tree}
use Rattle.map_model.specs.Heads.{layer_head}
use Rattle.map_model.specs.Keeping.{inner_tier, layer_tier}
use Rattle.map_model.specs.Lists.{or_empty}
use Rattle.map_model.proofs.OtherTiers.{read-at}
use Rattle.map_model.proofs.Trees.{tree-is}
use Rattle.layer_commands.specs.declared.notes.Note.{Note}
use Rattle.layer_commands.specs.declared.notes.Note.TheVariants as notes
use Rattle.layer_commands.specs.Extending.{layer_notes, moved_head}

module _ (by : Margin) where
  abbrev own : Layer → List (Option Note)
  own l = layer_notes by (layer_tier, l)

  -- a layer's own note, whatever stands in the layer
  own-bare : (l : Layer) → own (bare l) ≡ own l
  own-bare l = by_body l.body
    where
      by_body : (b : Body) → option_map_or (λ cells. Some (notes.Layer l.id (moved_head by (layer_head l))) ∷ []) (tiles_or_none (body_with_layers (λ ls. []) b)) []
          ≡ option_map_or (λ cells. Some (notes.Layer l.id (moved_head by (layer_head l))) ∷ []) (tiles_or_none b) []
      by_body (Group' s r) = refl
      by_body b = refl

  tiers : (groups a b : ℕ) (ls : List Layer) → flat_map (layer_notes by) (drawn groups a ls) ≡ flat_map (layer_notes by) (drawn groups b ls)
  tiers groups a b [] = refl
  tiers groups a b (l ∷ ls) =
      flat_map-append (layer_notes by) (tree groups a l) (drawn groups a ls) ∙ (λ i. read-at own groups a b l i ++ tiers groups a b ls i)
      ∙ sym (flat_map-append (layer_notes by) (tree groups b l) (drawn groups b ls))

  under-zero : (l : Layer) → flat_map (layer_notes by) (tree zero layer_tier l) ≡ own l
  under-zero l = ap (flat_map (layer_notes by)) (tree-is zero layer_tier l) ∙ append-nil (own (bare l)) ∙ own-bare l

  under-suc : (groups : ℕ) (l : Layer) → flat_map (layer_notes by) (tree (suc groups) layer_tier l)
      ≡ own l ++ flat_map (layer_notes by) (drawn groups layer_tier (inside l))
  under-suc groups l =
      ap (flat_map (layer_notes by)) (tree-is (suc groups) layer_tier l)
      ∙ (λ i. own-bare l i ++ tiers groups (inner_tier layer_tier) layer_tier (inside l) i)

  pub notes-no_groups : (groups : ℕ) (l : Layer) → groups ≡ 0 → flat_map (layer_notes by) (tree groups layer_tier l) ≡ own l
  notes-no_groups zero l z = under-zero l
  notes-no_groups (suc groups) l z = absurd (omega (arith, z))

  pub notes-no_group : (groups : ℕ) (l : Layer) → group_of l ≡ None → flat_map (layer_notes by) (tree groups layer_tier l) ≡ own l
  notes-no_group zero l g = under-zero l
  notes-no_group (suc groups) l g =
      under-suc groups l ∙ ap (λ o. own l ++ flat_map (layer_notes by) (drawn groups layer_tier (or_empty o))) g ∙ append-nil (own l)

  pub notes-group : (groups : ℕ) (l : Layer) (ks : List Layer) → groups ≢ 0 → group_of l ≡ Some ks
      → flat_map (layer_notes by) (tree groups layer_tier l) ≡ own l ++ flat_map (layer_notes by) (drawn (groups - 1) layer_tier ks)
  notes-group zero l ks z g = absurd (z refl)
  notes-group (suc groups) l ks z g =
      let same : groups ≡ suc groups - 1 = omega arith in
      under-suc groups l ∙ ap (λ o. own l ++ flat_map (layer_notes by) (drawn groups layer_tier (or_empty o))) g
      ∙ ap (λ n. own l ++ flat_map (layer_notes by) (drawn n layer_tier ks)) same

  pub notes-list : (groups : ℕ) (l : Layer) (ls : List Layer) → flat_map (layer_notes by) (drawn groups layer_tier (l ∷ ls))
      ≡ flat_map (layer_notes by) (tree groups layer_tier l) ++ flat_map (layer_notes by) (drawn groups layer_tier ls)
  notes-list groups l ls = flat_map-append (layer_notes by) (tree groups layer_tier l) (drawn groups layer_tier ls)

-- ---- lists that are pushed one after another
pub pushed-both : {X : Type 0} (old mid new a b all : List X) → mid ≡ old ++ a → new ≡ mid ++ b → all ≡ a ++ b → new ≡ old ++ all
pushed-both old mid new a b all first second is = second ∙ ap (λ xs. xs ++ b) first ∙ append_assoc old a b ∙ ap (λ xs. old ++ xs) (sym is)

pub pushed-next : {X : Type 0} (old new end a b all : List X) → new ≡ old ++ a → old ++ all ≡ end → all ≡ a ++ b → new ++ b ≡ end
pushed-next old new end a b all first was is = pushed-both old new (new ++ b) a b all first refl is ∙ was
