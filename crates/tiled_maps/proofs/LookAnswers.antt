-- What both calls may answer for a text that needs nothing set aside: there is no other text, or it is no JSON.
use Rattle.std.proofs.Common.{◌≡◌, ◌⊎◌, inl, inr, ℕ, List, true, false, true≢false, Option, Some, None, Ok, Err, IsUtf8, refl, sym, subst, ◌∙◌}
use Rattle.std.proofs.lemmas.Bool.{cases_Bool}
use Rattle.std.proofs.lemmas.Str.{IsUtf8-from_is_utf8, is_utf8-from_IsUtf8}
use Rattle.std.specs.Str.{is_utf8}
use Rattle.serde_json.specs.Data.{Data}
use Rattle.serde_json.specs.Read.{read}
use Rattle.tiled_maps.specs.declared.fault.Fault.TheVariants.{NotJson}
use Rattle.fractions.specs.Aside.{set_aside_of}
use Rattle.tiled_maps.specs.Look.{NeedsNothing, TextNeedsNothing}
use Rattle.json_trees.specs.Texts.{IsTreeOf}
use Rattle.tiled_maps.specs.Texts.{IsUnpacked, SetsAside, PutsBack}
use Rattle.tiled_maps.proofs.Meeting.{is_infinite-set_aside_of}
use Rattle.tiled_maps.proofs.Answered.{SetsAside-none, SetsAside-plain, unpacked-none, few_cells, IsPutBack-none}

-- the bytes have a tree that needs nothing, or none
either : (bytes : List ℕ) → TextNeedsNothing bytes → (o : Option Data) → read bytes ≡ o → (IsUtf8 bytes) ⊎ (IsUtf8 bytes → ⊥)
    → ((d : Data) × IsTreeOf bytes d × NeedsNothing d) ⊎ (IsUtf8 bytes → read bytes ≡ None)
either bytes h None e u = inr (λ _. e)
either bytes h (Some d) e (inl u) = inl (d, (u, e), h d e)
either bytes h (Some d) e (inr n) = inr (λ u. absurd (n u))

decided : (bytes : List ℕ) → (is_utf8 bytes ≡ true) ⊎ (is_utf8 bytes ≡ false) → (IsUtf8 bytes) ⊎ (IsUtf8 bytes → ⊥)
decided bytes (inl e) = inl (IsUtf8-from_is_utf8 bytes e)
decided bytes (inr e) = inr (λ u. true≢false (sym (is_utf8-from_IsUtf8 bytes u) ∙ e))

tree_or_none : (bytes : List ℕ) → TextNeedsNothing bytes → ((d : Data) × IsTreeOf bytes d × NeedsNothing d) ⊎ (IsUtf8 bytes → read bytes ≡ None)
tree_or_none bytes h = either bytes h (read bytes) refl (decided bytes (cases_Bool (is_utf8 bytes)))

aside_by : (bytes : List ℕ) → ((d : Data) × IsTreeOf bytes d × NeedsNothing d) ⊎ (IsUtf8 bytes → read bytes ≡ None)
    → SetsAside bytes (Ok None) ⊎ SetsAside bytes (Err NotJson)
aside_by bytes (inl (d, tree, n)) =
    let same : IsUnpacked bytes bytes d = record {
      tree = tree;
      free = n.unnoted;
      few = few_cells d n.unpacked;
      plain_tree = subst (IsTreeOf bytes) (sym (unpacked-none d n.unpacked)) tree;
    } in
    inl
    (SetsAside-plain bytes d (Ok None) same (d, set_aside_of d, SetsAside-none bytes d tree n.free n.whole (is_infinite-set_aside_of d ∙ n.finite)))
aside_by bytes (inr none) = inr (inl none)

pub SetsAside-nothing : (bytes : List ℕ) → TextNeedsNothing bytes → SetsAside bytes (Ok None) ⊎ SetsAside bytes (Err NotJson)
SetsAside-nothing bytes h = aside_by bytes (tree_or_none bytes h)

back_by : (bytes : List ℕ) → ((d : Data) × IsTreeOf bytes d × NeedsNothing d) ⊎ (IsUtf8 bytes → read bytes ≡ None)
    → PutsBack bytes (Ok None) ⊎ PutsBack bytes (Err NotJson)
back_by bytes (inl (d, tree, n)) = inl (d, d, IsPutBack-none bytes d tree n.free n.unnoted)
back_by bytes (inr none) = inr none

pub PutsBack-nothing : (bytes : List ℕ) → TextNeedsNothing bytes → PutsBack bytes (Ok None) ⊎ PutsBack bytes (Err NotJson)
PutsBack-nothing bytes h = back_by bytes (tree_or_none bytes h)
