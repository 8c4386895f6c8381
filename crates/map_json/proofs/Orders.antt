-- Members whose names ascend, and one more that is put among them.
use Rattle.std.proofs.Common.{◌≡◌, IsUtf8, ℕ, List, Ordering, Less, Equal, Greater, nat_cmp, refl, ap, ◌∙◌}
use Rattle.std.proofs.lemmas.Cmp.{nat_list_cmp_total}
use Rattle.std.specs.Cmp.Lexicographic.{slice_cmp}
use Rattle.std.specs.Ordering.{match_ordering, ordering_reverse}
use Rattle.serde_json.specs.Data.{Data, Members, no_members, member, put}
use Rattle.map_model.specs.Readable.{IsBefore, IsReadable, AreReadableMembers}

pub after_Less : (j k : List ℕ) → slice_cmp nat_cmp j k ≡ Less → slice_cmp nat_cmp k j ≡ Greater
after_Less j k e = nat_list_cmp_total.antisymm k j ∙ ap ordering_reverse e

pub after_Greater : (j k : List ℕ) → slice_cmp nat_cmp j k ≡ Greater → slice_cmp nat_cmp k j ≡ Less
after_Greater j k e = nat_list_cmp_total.antisymm k j ∙ ap ordering_reverse e

-- a name before another that is before the members
pub IsBefore-trans : (j k : List ℕ) (ms : Members) → slice_cmp nat_cmp j k ≡ Less → IsBefore k ms → IsBefore j ms
IsBefore-trans j k no_members e h = tt
IsBefore-trans j k (member l d ms) e h = (nat_list_cmp_total.trans j k l e h.0, IsBefore-trans j k ms e h.1)

put_before_at : (o : Ordering) (j k l : List ℕ) (d e : Data) (ms rest : Members) → slice_cmp nat_cmp j k ≡ Less → slice_cmp nat_cmp j l ≡ Less
    → IsBefore j ms → IsBefore j rest
    → IsBefore j (match_ordering o (member k d (member l e ms)) (member l d ms) (member l e rest))
put_before_at Less j k l d e ms rest new first h more = (new, (first, h))
put_before_at Equal j k l d e ms rest new first h more = (first, h)
put_before_at Greater j k l d e ms rest new first h more = (first, more)

pub IsBefore-put : (j k : List ℕ) (d : Data) (ms : Members) → slice_cmp nat_cmp j k ≡ Less → IsBefore j ms → IsBefore j (put k d ms)
IsBefore-put j k d no_members new h = (new, tt)
IsBefore-put j k d (member l e ms) new h = put_before_at (slice_cmp nat_cmp k l) j k l d e ms (put k d ms) new h.0 h.1 (IsBefore-put j k d ms new h.1)

-- a readable member that is put among readable ones
pub AreReadableMembers-put : (k : List ℕ) (d : Data) (ms : Members) → IsUtf8 k → IsReadable d → AreReadableMembers ms → AreReadableMembers (put k d ms)
AreReadableMembers-put k d no_members name new h = (name, tt, new, tt)
AreReadableMembers-put k d (member l e ms) name new h = by_order (slice_cmp nat_cmp k l) refl (AreReadableMembers-put k d ms name new h.3)
  where
    by_order : (o : Ordering) → slice_cmp nat_cmp k l ≡ o → AreReadableMembers (put k d ms)
        → AreReadableMembers (match_ordering o (member k d (member l e ms)) (member l d ms) (member l e (put k d ms)))
    by_order Less is more = (name, (is, IsBefore-trans k l ms is h.1), new, h)
    by_order Equal is more = (h.0, h.1, new, h.3)
    by_order Greater is more = (h.0, IsBefore-put l k d ms (after_Greater k l is) h.1, h.2, more)
