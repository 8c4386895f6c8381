-- What a parse gives of an option that may be left out.
use Rattle.std.proofs.Common.{◌≡◌, ◌∙◌, ◌++◌, ◌||◌, ◌<◌, ℕ, suc, zero, Bool, true, false, List, [], ◌∷◌, length, Option, Some, None, refl, sym, ap, subst, inl}
use Rattle.std.proofs.Common.{inr, arith}
use Rattle.std.specs.List.{All, slice_index_or}
use Rattle.std.specs.Str.{bytes_eq}
use Rattle.std.specs.Prelude.{codes, option_map, slice_get, unwrap_or, Result, Ok, Err, IfOk}
use Rattle.std.specs.Borrow.{Bor}
use Rattle.std.proofs.lemmas.List.Elements.{All-get_or, All-nil}
use Rattle.std.proofs.lemmas.Slice.Eq.{bytes_eq-Decides}
use Rattle.clap.specs.Facts.{args_of, groups_of, Entry, EntryPasses, PassesArg, ValuesPass, parser_of, parser_of_value}
use Rattle.clap.specs.Built.{AddsArg, IsAuto, IsParsedFrom, IsPlain, IsPlainArg, SameRules}
use Rattle.clap.specs.Matches.{first_value, found_of, matched_of}
use Rattle.clap.specs.Values.{Accepts}
use Rattle.clap.specs.declared.builder.arg.Arg.{Arg}
use Rattle.clap.specs.declared.builder.command.Command.{Command}
use Rattle.clap.specs.declared.builder.command.Command.TheViews.{out-Command}
use Rattle.clap.specs.declared.builder.command.Command.TheOpen.{Command-F}
use Rattle.clap.specs.declared.builder.value_parser.ValueParser.{ValueParser}
use Rattle.clap.specs.declared.parser.matches.ArgMatches.{ArgMatches}
use Rattle.clap.specs.declared.parser.matches.Found.{Found}
use Rattle.clap.specs.declared.parser.matches.MatchedArg.{MatchedArg}
use Rattle.tile_editor.specs.Options.{IsFlag}
use Rattle.clap.proofs.CallerLemmas.{added_plain, entry_by_id, same_rules_by_id}

first_passes : (P : Bor (List ℕ) → Type 0) (Q : List ℕ → Type 0) (values : List (Bor (List ℕ))) (t : List ℕ) → All P values
    → ((v : Bor (List ℕ)) → P v → Q v.now) → option_map (λ s. s.now) (slice_get values 0) ≡ Some t → Q t
first_passes P Q [] t all reads first = cc
first_passes P Q (v ∷ values) t all reads first =
    let given : Some v.now ≡ Some t = first in
    let same : v.now ≡ t = cc in
    subst Q same (reads v (All-get_or P (v ∷ values) 0 v (omega arith) all))

accepts_of : (a b : Arg) (q : ValueParser) (t : List ℕ) → SameRules a b → a.value_parser ≡ Some q
    → Accepts b.ignore_case (parser_of b) t → Accepts a.ignore_case q t
accepts_of a b q t same parser passes =
    let is_q : parser_of b ≡ q = ap parser_of_value (same.parser q parser) in
    let as_q : Accepts b.ignore_case q t = subst (λ (w : ValueParser). Accepts b.ignore_case w t) is_q passes in
    subst (λ (c : Bool). Accepts c q t) same.ignore_case as_q

-- a value that passed an argument with the id of the caller's argument passed the caller's parser
passes_read : (old : Command) (m : ArgMatches) (p : IsParsedFrom old m) (k : ℕ) (d : Arg) → k < length (args_of old)
    → ((j : ℕ) (e : Arg) → j < length (args_of old)
    → bytes_eq (slice_index_or (args_of old) j e).id.now (slice_index_or (args_of old) k d).id.now ≡ true → j ≡ k)
    → (IsAuto (slice_index_or (args_of old) k d) → ⊥)
    → (q : ValueParser) → (slice_index_or (args_of old) k d).value_parser ≡ Some q
    → (w : List ℕ) (v : Bor (List ℕ)) → w ≡ (slice_index_or (args_of old) k d).id.now → PassesArg p.built w v.now
    → Accepts (slice_index_or (args_of old) k d).ignore_case q v.now
passes_read old m p k d lt unique own q parser w v key pass =
    let same : bytes_eq pass.1.id.now (slice_index_or (args_of old) k d).id.now ≡ true =
    subst (λ (u : List ℕ). bytes_eq pass.1.id.now u ≡ true) key pass.4.0 in
    accepts_of _ pass.1 q v.now (same_rules_by_id old m p k d lt unique own pass.0 pass.1 pass.2 pass.3 same) parser pass.4.1

-- what the first value of an entry is, where the command has no groups
entry_passes : (c : Command) (id t : List ℕ) (Q : List ℕ → Type 0) (x : MatchedArg) (e : Entry) → groups_of c ≡ [] → (id ≡ [] → ⊥)
    → ((v : Bor (List ℕ)) → PassesArg c id v.now → Q v.now)
    → option_map (λ s. s.now) (slice_get x.vals.items 0) ≡ Some t → e.1 ≡ x → e.0.now ≡ id → EntryPasses c e → Q t
entry_passes c id t Q x e no_groups named reads first same_x key passes =
    let no_group : e.1.is_group ≡ true → ⊥ = λ g. elim (passes.3 g) [
      | inl empty ↦ named (sym key ∙ empty)
      | inr some ↦
          let bad : 0 < 0 = rw no_groups at some in
          absurd (omega arith)
    ] in
    let all : All (λ v. PassesArg c id v.now) x.vals.items = elim passes.0 [
      | inl g ↦ absurd (no_group g)
      | inr values ↦ subst (λ (w : List ℕ). All (λ v. PassesArg c w v.now) x.vals.items) key (rw same_x at values)
    ] in
    first_passes (λ v. PassesArg c id v.now) Q x.vals.items t all reads first

-- what the first value that an id has is, where the command has no groups
value_passes : (c : Command) (f : Found) (id t : List ℕ) (Q : List ℕ → Type 0) → groups_of c ≡ [] → (id ≡ [] → ⊥) → ValuesPass c f
    → ((v : Bor (List ℕ)) → PassesArg c id v.now → Q v.now) → first_value f id ≡ Some t → Q t
value_passes c f id t Q no_groups named values reads given = go (matched_of f id) refl given
  where
    step : (x : MatchedArg) → option_map (λ s. s.now) (slice_get x.vals.items 0) ≡ Some t
        → ((e : Entry) × (e.1 ≡ x) × (bytes_eq e.0.now id ≡ true) × EntryPasses c e) → Q t
    step x first got =
        entry_passes c id t Q x got.0 no_groups named reads first got.1 ((bytes_eq-Decides got.0.0.now id).0 got.2) got.3

    go : (o : Option MatchedArg) → matched_of f id ≡ o → first_value f id ≡ Some t → Q t
    go None none h =
        let bad : None ≡ Some t = rw none at h in
        cc
    go (Some x) found h = step x (rw found at h) (entry_by_id (EntryPasses c) f.entries.items id x values found)

-- a value that was given to an option of a command passed the option's parser
listed_option_passes : (cmd : Command) (k : ℕ) (a x : Arg) (m : ArgMatches) → IsPlain cmd → (out-Command cmd).has_globals ≡ false
    → k < length (args_of cmd) → slice_index_or (args_of cmd) k a ≡ x → SameRules a x
    → ((j : ℕ) (e : Arg) → j < length (args_of cmd) → bytes_eq (slice_index_or (args_of cmd) j e).id.now (slice_index_or (args_of cmd) k a).id.now ≡ true
    → j ≡ k)
    → (a.id.now ≡ [] → ⊥) → (IsAuto a → ⊥) → (q : ValueParser) → a.value_parser ≡ Some q → IsParsedFrom cmd m
    → (t : List ℕ) → first_value (found_of m) a.id.now ≡ Some t → Accepts a.ignore_case q t
listed_option_passes cmd k a x m plain no-globals lt elem rules only named own q parser p t given =
    let same-id : (slice_index_or (args_of cmd) k a).id.now ≡ a.id.now = ap (λ (y : Arg). y.id.now) elem ∙ ap (λ (y : Bor (List ℕ)). y.now) rules.id in
    let is-q : (slice_index_or (args_of cmd) k a).value_parser ≡ Some q = ap (λ (y : Arg). y.value_parser) elem ∙ rules.parser q parser in
    let auto : IsAuto (slice_index_or (args_of cmd) k a) → ⊥ = λ h. own (elim h [ inl w ↦ inl (sym same-id ∙ w) | inr w ↦ inr (sym same-id ∙ w) ]) in
    let parsed = p.parsed (p.from.globals ∙ no-globals) in
    let accepts = value_passes p.built (found_of m) a.id.now t (λ (w : List ℕ). Accepts (slice_index_or (args_of cmd) k a).ignore_case q w)
    (p.from.plain plain).1 named parsed.values
    (λ v pass. passes_read cmd m p k a lt only auto q is-q a.id.now v (sym same-id) pass) given in
    subst (λ (b : Bool). Accepts b q t) (ap (λ (y : Arg). y.ignore_case) elem ∙ rules.ignore_case) accepts

-- of five arguments of which one has an id that no other has, it is the only one with its id
first_of_five : (v w x y z d : Arg) → (v.id.now ≡ w.id.now → ⊥) → (v.id.now ≡ x.id.now → ⊥) → (v.id.now ≡ y.id.now → ⊥) → (v.id.now ≡ z.id.now → ⊥)
    → (j : ℕ) (e : Arg) → j < length (v ∷ w ∷ x ∷ y ∷ z ∷ [])
    → bytes_eq (slice_index_or (v ∷ w ∷ x ∷ y ∷ z ∷ []) j e).id.now v.id.now ≡ true → j ≡ 0
first_of_five v w x y z d v-w v-x v-y v-z zero e lt same = refl
first_of_five v w x y z d v-w v-x v-y v-z (suc zero) e lt same = absurd (v-w (sym ((bytes_eq-Decides w.id.now v.id.now).0 same)))
first_of_five v w x y z d v-w v-x v-y v-z (suc (suc zero)) e lt same = absurd (v-x (sym ((bytes_eq-Decides x.id.now v.id.now).0 same)))
first_of_five v w x y z d v-w v-x v-y v-z (suc (suc (suc zero))) e lt same = absurd (v-y (sym ((bytes_eq-Decides y.id.now v.id.now).0 same)))
first_of_five v w x y z d v-w v-x v-y v-z (suc (suc (suc (suc zero)))) e lt same = absurd (v-z (sym ((bytes_eq-Decides z.id.now v.id.now).0 same)))
first_of_five v w x y z d v-w v-x v-y v-z (suc (suc (suc (suc (suc n))))) e lt same = absurd (omega (arith, lt))

second_of_five : (v w x y z d : Arg) → (v.id.now ≡ w.id.now → ⊥) → (w.id.now ≡ x.id.now → ⊥) → (w.id.now ≡ y.id.now → ⊥) → (w.id.now ≡ z.id.now → ⊥)
    → (j : ℕ) (e : Arg) → j < length (v ∷ w ∷ x ∷ y ∷ z ∷ [])
    → bytes_eq (slice_index_or (v ∷ w ∷ x ∷ y ∷ z ∷ []) j e).id.now w.id.now ≡ true → j ≡ 1
second_of_five v w x y z d v-w w-x w-y w-z zero e lt same = absurd (v-w ((bytes_eq-Decides v.id.now w.id.now).0 same))
second_of_five v w x y z d v-w w-x w-y w-z (suc zero) e lt same = refl
second_of_five v w x y z d v-w w-x w-y w-z (suc (suc zero)) e lt same = absurd (w-x (sym ((bytes_eq-Decides x.id.now w.id.now).0 same)))
second_of_five v w x y z d v-w w-x w-y w-z (suc (suc (suc zero))) e lt same = absurd (w-y (sym ((bytes_eq-Decides y.id.now w.id.now).0 same)))
second_of_five v w x y z d v-w w-x w-y w-z (suc (suc (suc (suc zero)))) e lt same = absurd (w-z (sym ((bytes_eq-Decides z.id.now w.id.now).0 same)))
second_of_five v w x y z d v-w w-x w-y w-z (suc (suc (suc (suc (suc n))))) e lt same = absurd (omega (arith, lt))

-- what an option must be, so that its values are known to have passed its parser
pub record IsOption (a : Arg) (q : ValueParser) : Type 0 where
  pub plain : IsPlainArg a
  pub local : a.global ≡ false
  pub named : a.id.now ≡ [] → ⊥
  pub own : IsAuto a → ⊥
  pub parser : a.value_parser ≡ Some q

-- what an argument without a value must be
pub record IsSwitch (a : Arg) : Type 0 where
  pub plain : IsPlainArg a
  pub local : a.global ≡ false

-- the first two of five arguments have ids of their own
pub record AreApart (a b d e f : Arg) : Type 0 where
  pub a-b : a.id.now ≡ b.id.now → ⊥
  pub a-d : a.id.now ≡ d.id.now → ⊥
  pub a-e : a.id.now ≡ e.id.now → ⊥
  pub a-f : a.id.now ≡ f.id.now → ⊥
  pub b-d : b.id.now ≡ d.id.now → ⊥
  pub b-e : b.id.now ≡ e.id.now → ⊥
  pub b-f : b.id.now ≡ f.id.now → ⊥

-- each value that was given to one of the first two of five arguments of a command passed its parser
pub two_options_pass : (start mid more most last cmd : Command) (a b d e f : Arg) (q r : ValueParser)
    → AddsArg start a mid → AddsArg mid b more → AddsArg more d most → AddsArg most e last → AddsArg last f cmd
    → args_of start ≡ [] → groups_of start ≡ [] → (out-Command start).has_globals ≡ false
    → IsOption a q → IsOption b r → IsSwitch d → IsSwitch e → IsSwitch f → AreApart a b d e f
    → (m : ArgMatches) (t : List ℕ) → IsParsedFrom cmd m
    → (first_value (found_of m) a.id.now ≡ Some t → Accepts a.ignore_case q t) × (first_value (found_of m) b.id.now ≡ Some t → Accepts b.ignore_case r t)
two_options_pass start mid more most last cmd a b d e f q r one two three four five args groups globals is-a is-b is-d is-e is-f apart m t p =
    let list : args_of cmd ≡ one.arg ∷ two.arg ∷ three.arg ∷ four.arg ∷ five.arg ∷ [] =
    five.args ∙ ap (λ l. l ++ five.arg ∷ [])
    (four.args ∙ ap (λ l. l ++ four.arg ∷ [])
    (three.args ∙ ap (λ l. l ++ three.arg ∷ []) (two.args ∙ ap (λ l. l ++ two.arg ∷ []) (one.args ∙ ap (λ l. l ++ one.arg ∷ []) args)))) in
    let plain-start : IsPlain start = (subst (All IsPlainArg) (sym args) (All-nil IsPlainArg), groups) in
    let plain-more : IsPlain more = added_plain mid more b two (added_plain start mid a one plain-start is-a.plain) is-b.plain in
    let plain-last : IsPlain last = added_plain most last e four (added_plain more most d three plain-more is-d.plain) is-e.plain in
    let plain : IsPlain cmd = added_plain last cmd f five plain-last is-f.plain in
    let none-mid : (out-Command mid).has_globals ≡ false = one.globals ∙ (ap (λ g. g || a.global) globals ∙ ap (λ g. false || g) is-a.local) in
    let none-more : (out-Command more).has_globals ≡ false = two.globals ∙ (ap (λ g. g || b.global) none-mid ∙ ap (λ g. false || g) is-b.local) in
    let none-most : (out-Command most).has_globals ≡ false = three.globals ∙ (ap (λ g. g || d.global) none-more ∙ ap (λ g. false || g) is-d.local) in
    let none-last : (out-Command last).has_globals ≡ false = four.globals ∙ (ap (λ g. g || e.global) none-most ∙ ap (λ g. false || g) is-e.local) in
    let no-globals : (out-Command cmd).has_globals ≡ false = five.globals ∙ (ap (λ g. g || f.global) none-last ∙ ap (λ g. false || g) is-f.local) in
    let id-a : one.arg.id.now ≡ a.id.now = ap (λ (y : Bor (List ℕ)). y.now) one.rules.id in
    let id-b : two.arg.id.now ≡ b.id.now = ap (λ (y : Bor (List ℕ)). y.now) two.rules.id in
    let id-d : three.arg.id.now ≡ d.id.now = ap (λ (y : Bor (List ℕ)). y.now) three.rules.id in
    let id-e : four.arg.id.now ≡ e.id.now = ap (λ (y : Bor (List ℕ)). y.now) four.rules.id in
    let id-f : five.arg.id.now ≡ f.id.now = ap (λ (y : Bor (List ℕ)). y.now) five.rules.id in
    let apart-a-b : one.arg.id.now ≡ two.arg.id.now → ⊥ = λ s. apart.a-b (sym id-a ∙ s ∙ id-b) in
    let apart-a-d : one.arg.id.now ≡ three.arg.id.now → ⊥ = λ s. apart.a-d (sym id-a ∙ s ∙ id-d) in
    let apart-a-e : one.arg.id.now ≡ four.arg.id.now → ⊥ = λ s. apart.a-e (sym id-a ∙ s ∙ id-e) in
    let apart-a-f : one.arg.id.now ≡ five.arg.id.now → ⊥ = λ s. apart.a-f (sym id-a ∙ s ∙ id-f) in
    let apart-b-d : two.arg.id.now ≡ three.arg.id.now → ⊥ = λ s. apart.b-d (sym id-b ∙ s ∙ id-d) in
    let apart-b-e : two.arg.id.now ≡ four.arg.id.now → ⊥ = λ s. apart.b-e (sym id-b ∙ s ∙ id-e) in
    let apart-b-f : two.arg.id.now ≡ five.arg.id.now → ⊥ = λ s. apart.b-f (sym id-b ∙ s ∙ id-f) in
    let only-a = subst (λ l. (j : ℕ) (x : Arg) → j < length l → bytes_eq (slice_index_or l j x).id.now (slice_index_or l 0 a).id.now ≡ true → j ≡ 0) (sym list)
    (first_of_five one.arg two.arg three.arg four.arg five.arg a apart-a-b apart-a-d apart-a-e apart-a-f) in
    let only-b = subst (λ l. (j : ℕ) (x : Arg) → j < length l → bytes_eq (slice_index_or l j x).id.now (slice_index_or l 1 b).id.now ≡ true → j ≡ 1) (sym list)
    (second_of_five one.arg two.arg three.arg four.arg five.arg b apart-a-b apart-b-d apart-b-e apart-b-f) in
    let five-long : length (args_of cmd) ≡ 5 = ap length list in (
      listed_option_passes cmd 0 a one.arg m plain no-globals (omega (arith, five-long))
          (ap (λ l. slice_index_or l 0 a) list) one.rules only-a is-a.named is-a.own q is-a.parser p t,
      listed_option_passes cmd 1 b two.arg m plain no-globals (omega (arith, five-long))
          (ap (λ l. slice_index_or l 1 b) list) two.rules only-b is-b.named is-b.own r is-b.parser p t,
    )

-- what holds of each value of an `Ok`
pub if_ok : {A E : Type 0} (r : Result A E) (P Q : A → Type 0) → IfOk r P → ((a : A) → P a → Q a) → IfOk r Q
if_ok (Ok a) P Q h k = k a h
if_ok (Err e) P Q h k = tt

-- what a text that may be missing comes to
pub unwrapped_text : (o : Option (Bor (List ℕ))) (d : Bor (List ℕ)) → (unwrap_or o d).now ≡ unwrap_or (option_map (λ s. s.now) o) d.now
unwrapped_text None d = refl
unwrapped_text (Some s) d = refl

pub unwrapped_some : (o : Option (Bor (List ℕ))) (d : Bor (List ℕ)) → 0 < length d.now
    → ((t : List ℕ) → option_map (λ s. s.now) o ≡ Some t → 0 < length t) → 0 < length (unwrap_or o d).now
unwrapped_some None d some given = some
unwrapped_some (Some s) d some given = given s.now refl

-- what a command with a version and texts for its help is for a parse
pub texts_added : (new version about after : Command) (v a h : Bor (List ℕ))
    → out-Command version ≡ record (out-Command new) { version = Some v }
    → out-Command about ≡ record (out-Command version) { about = Some a }
    → out-Command after ≡ record (out-Command about) { after_help = Some h }
    → out-Command after ≡ record (out-Command new) { version = Some v; about = Some a; after_help = Some h }
texts_added new version about after v a h is_version is_about is_after =
    is_after ∙ ap (λ (f : Command-F Command). record f { after_help = Some h })
    (is_about ∙ ap (λ (f : Command-F Command). record f { about = Some a }) is_version)

-- what `get_flag` reads is what the text says
pub read_IsFlag : (o : Option (List ℕ)) (given : Bool) → (o ≡ None → given ≡ false) → (o ≡ Some (codes "true") → given ≡ true)
    → (o ≡ Some (codes "false") → given ≡ false) → IsFlag o given
read_IsFlag None given none when_true when_false = none refl
read_IsFlag (Some text) given none when_true when_false = (λ e. when_true (ap Some e), λ e. when_false (ap Some e))
