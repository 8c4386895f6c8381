-- The members of a frame, put out one after another, with a value in the place of one of them.
use Rattle.std.proofs.Common.{◌≡◌, ◌≤◌, ℕ, List, [], ◌∷◌, ◌++◌, string_bytes, Bool, true, false, refl, sym, ap, ◌∙◌, subst, arith, append_assoc, append-nil}
use Rattle.std.proofs.lemmas.Bool.{or_parts}
use Rattle.std.proofs.lemmas.Str.{IsUtf8-string_bytes}
use Rattle.std.specs.List.Sorted.{IsStrictlySortedBy}
use Rattle.std.specs.Map.{keys_of}
use Rattle.std.specs.String.{string_cmp}
use Rattle.json.specs.Print.{quoted}
use Rattle.serde_json.specs.Data.{Data, Members, members_depth, no_members, object, put}
use Rattle.serde_json.specs.Read.{max_depth}
use Rattle.serde_json.specs.View.{view, members_view}
use Rattle.serde_json.specs.Written.{comma_if, compact_text, has_float, members_have_float, members_text}
use Rattle.serde_json.proofs.Views.{Entry, put_last}
use Rattle.map_values.specs.Texts.{Appends}
use Rattle.map_json.specs.Appending.{instead, replaced}
use Rattle.map_json.proofs.Frames.{replaced-put}
use Rattle.map_json.proofs.Returning.{MembersReturn, MembersReturn-none, MembersReturn-member, Returns-object, regroup_member}

abbrev pub shown : List ℕ → Data → List Entry → Members
shown k d es = replaced k d (members_view es)

-- of these entries of a frame some are put out behind the beginning, and these are left
pub record ArePut (k : List ℕ) (d : Data) (frame : Members) (begin : List ℕ) (entries left : List Entry) (later : Bool) (text : List ℕ) : Type 0 where
  pub done : List Entry
  pub split : entries ≡ done ++ left
  pub together : text ++ members_text later (shown k d left) ≡ begin ++ members_text false (replaced k d frame)
  pub returns : MembersReturn (shown k d left) (shown k d done) (replaced k d frame) → MembersReturn (replaced k d frame) no_members (replaced k d frame)
  pub whole : members_have_float (members_view left) ≡ false
  pub shallow : members_depth (members_view left) ≤ max_depth

module _ (k : List ℕ) (d : Data) (frame : Members) (begin : List ℕ) (entries : List Entry) where
  pub ArePut-none : members_view entries ≡ frame → members_have_float frame ≡ false → members_depth frame ≤ max_depth
      → ArePut k d frame begin entries entries false begin
  ArePut-none same whole shallow =
      let all = ap (replaced k d) same in
      record {
        done = [];
        split = refl;
        together = ap (λ ms. begin ++ members_text false ms) all;
        returns = λ h. subst (λ ms. MembersReturn ms no_members (replaced k d frame)) all h;
        whole = ap members_have_float same ∙ whole;
        shallow = subst (λ ms. members_depth ms ≤ max_depth) (sym same) shallow;
      }

  pub ArePut-more : (left : List Entry) (later : Bool) (text named new : List ℕ) (e : Entry) → ArePut k d frame begin entries (e ∷ left) later text
      → IsStrictlySortedBy string_cmp (keys_of entries)
      → named ≡ text ++ (comma_if later ++ (quoted (string_bytes e.0) ++ 58 ∷ [])) → Appends (instead k d (string_bytes e.0) (view e.1)) named new
      → ArePut k d frame begin entries left true new
  ArePut-more left later text named new e h ordered name shows =
      let key = string_bytes e.0 in
      let value = instead k d key (view e.1) in
      let done = h.done in
      let last = put_last done e left (subst (λ es. IsStrictlySortedBy string_cmp (keys_of es)) h.split ordered) in
      let found : put key value (shown k d done) ≡ shown k d (done ++ e ∷ []) = sym (replaced-put k key d (view e.1) (members_view done))
      ∙ ap (replaced k d) last in
      let rest = members_text true (shown k d left) in
      let parts = or_parts (has_float (view e.1)) _ h.whole in
      let deep = h.shallow in
      record {
        done = done ++ e ∷ [];
        split = h.split ∙ sym (append_assoc done (e ∷ []) left);
        together = ap (λ t. t ++ rest) (shows.0 ∙ ap (λ t. t ++ compact_text value) name)
            ∙ (regroup_member text (comma_if later) (quoted key) (compact_text value) rest ∙ h.together);
        returns = λ g. h.returns (MembersReturn-member key value (shown k d left) (shown k d done) (replaced k d frame) (IsUtf8-string_bytes e.0) shows.1
            (subst (λ ms. MembersReturn (shown k d left) ms (replaced k d frame)) (sym found) g));
        whole = parts.1;
        shallow = omega arith;
      }

  pub ArePut-all : (later : Bool) (old text new : List ℕ) → ArePut k d frame begin entries [] later text → members_view entries ≡ frame
      → begin ≡ old ++ 123 ∷ [] → new ≡ text ++ 125 ∷ []
      → Appends (object (replaced k d frame)) old new
  ArePut-all later old text new h same opened closed =
      let every = replaced k d frame in
      let all : every ≡ shown k d h.done = ap (replaced k d) (sym same) ∙ ap (shown k d) (h.split ∙ append-nil h.done) in
      let back = subst (λ ms. MembersReturn no_members ms every) all (MembersReturn-none every) in (
        closed ∙ (h.together ∙ (ap (λ t. t ++ members_text false every) opened ∙ append_assoc old (123 ∷ []) (members_text false every))),
        Returns-object every (h.returns back),
      )
