-- A line of own members is an edit of the law.
use Rattle.std.proofs.Common.{◌≡◌, ℕ, List, Bool, true, false, is_some, Option, Some, None, option_map, option_and_then, Result, Ok, Err, refl, ap, ◌∙◌}
use Rattle.std.specs.Option.{ok_or}
use Rattle.serde_json.specs.Data.{Members, member, no_members}
use Rattle.serde_json.specs.Find.{get_member}
use Rattle.fractions.specs.declared.lines.Fractions.{Fractions}
use Rattle.fractions.specs.Lines.{put_words, remove_word}
use Rattle.fractions.specs.Places.{below}
use Rattle.map_model.specs.Document.{DocumentParts}
use Rattle.map_model.specs.Lens.{put}
use Rattle.map_json.specs.MapHeads.{map_head_at, map_head_said}
use Rattle.map_json.proofs.Sound.{by_bind, by_check, ok_is}
use Rattle.map_json.specs.Words.{all_named, word_at, words_at}
use Rattle.map_model.specs.declared.heads.MapHead.{MapHead}
use Rattle.map_model.specs.declared.parts.MapParts.{MapParts}
use Rattle.map_model.specs.Heads.{map_with_head}
use Rattle.map_json.specs.Distinctness.{are_below_next}
use Rattle.refusals.specs.declared.map_refusal.MapRefusal.{MapRefusal}
use Rattle.refusals.specs.declared.map_refusal.MapRefusal.TheVariants.{OverLimit}
use Rattle.refusals.specs.declared.more_fault.MoreFault.{MoreFault}
use Rattle.refusals.specs.declared.more_fault.MoreFault.TheVariants as faults
use Rattle.member_commands.specs.Edits.{◌>>=◌, after_head, after_put_members, after_remove_member, after_set_member, check, said}
use Rattle.member_commands.specs.Heads.{HeadParts}
use Rattle.line_frames.specs.Frames.{done, with_members}
use Rattle.line_frames.specs.MemberLines.{put_change, remove_change, set_change}

module _ {H : Type 0} (p : HeadParts H) (read : Members → Result H MapRefusal) (id : ℕ) (d n : DocumentParts)
    (reads : (ms : Members) (h : H) → p.read d ms ≡ Ok h → read ms ≡ Ok h) where
  -- ---- behind all tests
  read_then : (ms : Members) → done (said (p.read d ms) >>= after_head p d id) ≡ Some n
      → option_map (λ h. put (p.lens id) h d) (done (said (read ms))) ≡ Some n
  read_then ms e = by_read (p.read d ms) refl e
    where
      by_read : (r : Result H MapRefusal) → p.read d ms ≡ r → done (said r >>= after_head p d id) ≡ Some n
          → option_map (λ h. put (p.lens id) h d) (done (said (read ms))) ≡ Some n
      by_read (Ok h) q k = rw (reads ms h q) k
      by_read (Err fault) q k = cc

  -- ---- a test, and what a text says
  set_then : (b : Bool) {A : Type 0} (w : Result A MapRefusal) (words : A → Members)
      → done (check b faults.MemberOfOtherLines >>= λ _. said w >>= λ value. said (p.read d (words value)) >>= after_head p d id) ≡ Some n
      → option_map (λ h. put (p.lens id) h d) (done (check b faults.MemberOfOtherLines >>= λ _. said w >>= λ value. said (read (words value)))) ≡ Some n
  set_then true (Ok value) words e = read_then (words value) e
  set_then true (Err fault) words e = cc
  set_then false w words e = cc

  put_then : {A : Type 0} (w : Result A MapRefusal) (test : A → Bool) (words : A → Members)
      → done (said w >>= λ value. check (test value) faults.MemberOfOtherLines >>= λ _. said (p.read d (words value)) >>= after_head p d id) ≡ Some n
      → option_map (λ h. put (p.lens id) h d)
      (done (said w >>= λ value. check (test value) faults.MemberOfOtherLines >>= λ _. said (read (words value)))) ≡ Some n
  put_then (Ok value) test words e = by_test (test value) e
    where
      by_test : (b : Bool) → done (check b faults.MemberOfOtherLines >>= λ _. said (p.read d (words value)) >>= after_head p d id) ≡ Some n
          → option_map (λ h. put (p.lens id) h d) (done (check b faults.MemberOfOtherLines >>= λ _. said (read (words value)))) ≡ Some n
      by_test true k = read_then (words value) k
      by_test false k = cc
  put_then (Err fault) test words e = cc

  remove_then : (a b : Bool) (ms : Members)
      → done (check a faults.MemberOfOtherLines >>= λ _. check b faults.NoSuchMember >>= λ _. said (p.read d ms) >>= after_head p d id) ≡ Some n
      → option_map (λ h. put (p.lens id) h d)
      (done (check a faults.MemberOfOtherLines >>= λ _. check b faults.NoSuchMember >>= λ _. said (read ms))) ≡ Some n
  remove_then true true ms e = read_then ms e
  remove_then true false ms e = cc
  remove_then false b ms e = cc

  -- ---- what the owner has
  owner_then : (o : Option H) (fault : MoreFault) (rest : H → Result DocumentParts MoreFault) (change : H → Option H)
      → ((own : H) → done (rest own) ≡ Some n → option_map (λ h. put (p.lens id) h d) (change own) ≡ Some n)
      → done (ok_or o fault >>= rest) ≡ Some n → option_map (λ h. put (p.lens id) h d) (option_and_then change o) ≡ Some n
  owner_then None fault rest change same e = cc
  owner_then (Some own) fault rest change same e = same own e

  -- ---- the lines
  module _ (fractions : Fractions) where
    pub set_line : (name json : List ℕ) → done (after_set_member p fractions d id name json) ≡ Some n
        → with_members (p.lens id) (set_change p read fractions (p.moved fractions d) name json) d ≡ Some n
    set_line name json =
        owner_then ((p.lens id).get d) (faults.Edit p.absence) _ (set_change p read fractions (p.moved fractions d) name json)
        (λ own. set_then (p.is_own name) (word_at fractions (below p.place name) json)
        (λ value. put_words fractions p.place (p.moved fractions d) (member name value no_members) (p.members own)))

    pub put_line : (json : List ℕ) → done (after_put_members p fractions d id json) ≡ Some n
        → with_members (p.lens id) (put_change p read fractions (p.moved fractions d) json) d ≡ Some n
    put_line json =
        owner_then ((p.lens id).get d) (faults.Edit p.absence) _ (put_change p read fractions (p.moved fractions d) json)
        (λ own. put_then (words_at fractions p.place json) (all_named p.is_own)
        (λ words. put_words fractions p.place (p.moved fractions d) words (p.members own)))

    pub remove_line : (name : List ℕ) → done (after_remove_member p fractions d id name) ≡ Some n
        → with_members (p.lens id) (remove_change p read fractions (p.moved fractions d) name) d ≡ Some n
    remove_line name =
        owner_then ((p.lens id).get d) (faults.Edit p.absence) _ (remove_change p read fractions (p.moved fractions d) name)
        (λ own. remove_then (p.is_own name) (is_some (get_member name (p.members own))) (remove_word fractions p.place name (p.members own)))

-- a map's members are read as they are said, where the map may have them
pub map-reads : (m : MapParts) (ms : Members) (h : MapHead) → map_head_at m ms ≡ Ok h → map_head_said ms ≡ Ok h
unfolding map_head_at
map-reads m ms h e =
    by_bind (map_head_said ms) _ h e
    (λ own is k. by_check (are_below_next (map_with_head own m)) OverLimit _ h k (λ below j. is ∙ ap Ok (ok_is own h j)))
