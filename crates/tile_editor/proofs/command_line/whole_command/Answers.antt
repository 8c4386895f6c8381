use Rattle.std.proofs.Common.{◌≡◌, ◌<◌, ◌∙◌, ℕ, true, false, [], slice_index, ap, sym, inl, inr, arith, codes, lit<}
use Rattle.clap.specs.Words.{IsPlainArg, Text, app_of, first_value, found_of, new_app, rule_of, with_rule}
use Rattle.clap.specs.Simple.{app_of_fields, on_top}
use Rattle.clap.specs.Walk.{Rule}
use Rattle.clap.specs.declared.builder.arg.Arg.{Arg}
use Rattle.clap.specs.declared.builder.command.Command.{Command}
use Rattle.clap.specs.declared.builder.command.Command.TheOpen.{Command-F}
use Rattle.clap.specs.declared.builder.value_parser.ValueParser.TheVariants as parser
use Rattle.undo_stack.specs.declared.limits.TheConstants.{MAX_LIMIT}
use Rattle.tile_editor.specs.Options.{folder_option, limit_option, strict_option, all_maps_option, all_edits_option}
use Rattle.tile_editor.proofs.CommandLines.{AreApart, IsOption, if_ok, texts_added, two_options_pass}
use Rattle.tile_editor.proofs.command_line.whole_command.Goals as goal

id_of : (a : Arg) (r : Rule) → rule_of a ≡ r → a.id.now ≡ r.id
id_of a r e = ap (λ (x : Rule). x.id) e

-- the first byte of an id
first_byte : (id other : Text) → id ≡ other → slice_index id 0 ≡ slice_index other 0
first_byte id other e = ap (λ (s : Text). slice_index s 0) e

is_folder : (a : Arg) → rule_of a ≡ folder_option → IsPlainArg a → a.global ≡ false → IsOption a parser.NonEmptyString
is_folder a rule plain local = record {
  plain = plain;
  local = local;
  named = λ e. let bad : 102 ≡ 0 = first_byte (codes "folder") [] (sym (id_of a folder_option rule) ∙ e) in absurd (omega arith);
  own = λ auto. elim auto [
    | inl e ↦ let bad : 102 ≡ 104 = first_byte (codes "folder") (codes "help") (sym (id_of a folder_option rule) ∙ e) in absurd (omega arith)
    | inr e ↦ let bad : 102 ≡ 118 = first_byte (codes "folder") (codes "version") (sym (id_of a folder_option rule) ∙ e) in absurd (omega arith)
  ];
  parser = ap (λ (x : Rule). x.parser) rule;
}

is_limit : (a : Arg) → rule_of a ≡ limit_option → IsPlainArg a → a.global ≡ false → IsOption a (parser.Unsigned 0 MAX_LIMIT)
is_limit a rule plain local = record {
  plain = plain;
  local = local;
  named = λ e. let bad : 108 ≡ 0 = first_byte (codes "limit") [] (sym (id_of a limit_option rule) ∙ e) in absurd (omega arith);
  own = λ auto. elim auto [
    | inl e ↦ let bad : 108 ≡ 104 = first_byte (codes "limit") (codes "help") (sym (id_of a limit_option rule) ∙ e) in absurd (omega arith)
    | inr e ↦ let bad : 108 ≡ 118 = first_byte (codes "limit") (codes "version") (sym (id_of a limit_option rule) ∙ e) in absurd (omega arith)
  ];
  parser = ap (λ (x : Rule). x.parser) rule;
}

-- two ids that begin with different bytes
apart : (a b : Arg) (r s : Rule) → rule_of a ≡ r → rule_of b ≡ s → (slice_index r.id 0 ≡ slice_index s.id 0 → ⊥) → a.id.now ≡ b.id.now → ⊥
apart a b r s is-a is-b differ e = differ (first_byte r.id s.id (sym (id_of a r is-a) ∙ e ∙ id_of b s is-b))

differ : (m n : ℕ) → m < n → m ≡ n → ⊥
differ m n less same = absurd (omega (arith, less, same))

are_apart : (a b d e f : Arg) → rule_of a ≡ folder_option → rule_of b ≡ limit_option → rule_of d ≡ strict_option → rule_of e ≡ all_maps_option
    → rule_of f ≡ all_edits_option → AreApart a b d e f
are_apart a b d e f is-a is-b is-d is-e is-f = record {
  a-b = apart a b folder_option limit_option is-a is-b (differ 102 108 (lit< tt));
  a-d = apart a d folder_option strict_option is-a is-d (differ 102 115 (lit< tt));
  a-e = apart a e folder_option all_maps_option is-a is-e (λ s. differ 97 102 (lit< tt) (sym s));
  a-f = apart a f folder_option all_edits_option is-a is-f (λ s. differ 97 102 (lit< tt) (sym s));
  b-d = apart b d limit_option strict_option is-b is-d (differ 108 115 (lit< tt));
  b-e = apart b e limit_option all_maps_option is-b is-e (λ s. differ 97 108 (lit< tt) (sym s));
  b-f = apart b f limit_option all_edits_option is-b is-f (λ s. differ 97 108 (lit< tt) (sym s));
}

-- the command with its texts, and with one option after the other
pub returns-clause-app : goal.returns-clause-app
returns-clause-app c =
    let texts = texts_added c.new.result c.version.result c.about.result c.after_help.result _ _ _ c.version.ensures c.about.ensures c.after_help.ensures in
    let none : app_of c.after_help.result ≡ on_top (λ shape. record shape { has_version = true }) (new_app (codes "tile_editor")) =
    ap app_of_fields texts ∙ ap (on_top (λ shape. record shape { has_version = true })) c.new.ensures.app in
    let one : app_of c.in_ok-with_folder.with_folder ≡ with_rule (app_of c.after_help.result) folder_option =
    c.in_ok-with_folder.ensures.shape c.folder_arg.ensures.local ∙ ap (with_rule (app_of c.after_help.result)) c.folder_arg.ensures.rule in
    let two : app_of c.in_ok-with_limit.with_limit ≡ with_rule (app_of c.in_ok-with_folder.with_folder) limit_option =
    c.in_ok-with_limit.ensures.shape c.limit_arg.ensures.local ∙ ap (with_rule (app_of c.in_ok-with_folder.with_folder)) c.limit_arg.ensures.rule in
    let three : app_of c.in_ok-with_strict.with_strict ≡ with_rule (app_of c.in_ok-with_limit.with_limit) strict_option =
    c.in_ok-with_strict.ensures.shape c.strict_arg.ensures.local ∙ ap (with_rule (app_of c.in_ok-with_limit.with_limit)) c.strict_arg.ensures.rule in
    let four : app_of c.in_ok-with_all_maps.with_all_maps ≡ with_rule (app_of c.in_ok-with_strict.with_strict) all_maps_option =
    c.in_ok-with_all_maps.ensures.shape c.all_maps_arg.ensures.local
    ∙ ap (with_rule (app_of c.in_ok-with_strict.with_strict)) c.all_maps_arg.ensures.rule in
    if_ok c.arg-5.result _ _ c.arg-5.ensures (λ cmd five.
    five.shape c.all_edits_arg.ensures.local ∙ ap (with_rule (app_of c.in_ok-with_all_maps.with_all_maps)) c.all_edits_arg.ensures.rule
    ∙ ap (λ app. with_rule app all_edits_option) (four ∙ ap (λ app. with_rule app all_maps_option) (three ∙ ap (λ app. with_rule app strict_option)
    (two ∙ ap (λ app. with_rule app limit_option) (one ∙ ap (λ app. with_rule app folder_option) none)))))

pub returns-clause-folder : goal.returns-clause-folder
returns-clause-folder c =
    let a = c.folder_arg in
    let b = c.limit_arg in
    let d = c.strict_arg in
    let e = c.all_maps_arg in
    let f = c.all_edits_arg in
    let texts = texts_added c.new.result c.version.result c.about.result c.after_help.result _ _ _ c.version.ensures c.about.ensures c.after_help.ensures in
    if_ok c.arg-5.result _ _ c.arg-5.ensures (λ cmd five m t p given.
    (two_options_pass c.after_help.result c.in_ok-with_folder.with_folder c.in_ok-with_limit.with_limit c.in_ok-with_strict.with_strict
    c.in_ok-with_all_maps.with_all_maps cmd
    a.result b.result d.result e.result f.result parser.NonEmptyString (parser.Unsigned 0 MAX_LIMIT)
    c.in_ok-with_folder.ensures c.in_ok-with_limit.ensures c.in_ok-with_strict.ensures c.in_ok-with_all_maps.ensures five
    (ap (λ (f : Command-F Command). f.args.items) texts ∙ c.new.ensures.empty.0)
    (ap (λ (f : Command-F Command). f.groups.items) texts ∙ c.new.ensures.empty.1)
    (ap (λ (f : Command-F Command). f.has_globals) texts ∙ c.new.ensures.local)
    (is_folder a.result a.ensures.rule a.ensures.plain a.ensures.local) (is_limit b.result b.ensures.rule b.ensures.plain b.ensures.local)
    (record { plain = d.ensures.plain; local = d.ensures.local }) (record { plain = e.ensures.plain; local = e.ensures.local })
    (record { plain = f.ensures.plain; local = f.ensures.local })
    (are_apart a.result b.result d.result e.result f.result a.ensures.rule b.ensures.rule d.ensures.rule e.ensures.rule f.ensures.rule) m t p).0
    (ap (first_value (found_of m)) (id_of a.result folder_option a.ensures.rule) ∙ given))

pub returns-clause-limit : goal.returns-clause-limit
returns-clause-limit c =
    let a = c.folder_arg in
    let b = c.limit_arg in
    let d = c.strict_arg in
    let e = c.all_maps_arg in
    let f = c.all_edits_arg in
    let texts = texts_added c.new.result c.version.result c.about.result c.after_help.result _ _ _ c.version.ensures c.about.ensures c.after_help.ensures in
    if_ok c.arg-5.result _ _ c.arg-5.ensures (λ cmd five m t p given.
    (two_options_pass c.after_help.result c.in_ok-with_folder.with_folder c.in_ok-with_limit.with_limit c.in_ok-with_strict.with_strict
    c.in_ok-with_all_maps.with_all_maps cmd
    a.result b.result d.result e.result f.result parser.NonEmptyString (parser.Unsigned 0 MAX_LIMIT)
    c.in_ok-with_folder.ensures c.in_ok-with_limit.ensures c.in_ok-with_strict.ensures c.in_ok-with_all_maps.ensures five
    (ap (λ (f : Command-F Command). f.args.items) texts ∙ c.new.ensures.empty.0)
    (ap (λ (f : Command-F Command). f.groups.items) texts ∙ c.new.ensures.empty.1)
    (ap (λ (f : Command-F Command). f.has_globals) texts ∙ c.new.ensures.local)
    (is_folder a.result a.ensures.rule a.ensures.plain a.ensures.local) (is_limit b.result b.ensures.rule b.ensures.plain b.ensures.local)
    (record { plain = d.ensures.plain; local = d.ensures.local }) (record { plain = e.ensures.plain; local = e.ensures.local })
    (record { plain = f.ensures.plain; local = f.ensures.local })
    (are_apart a.result b.result d.result e.result f.result a.ensures.rule b.ensures.rule d.ensures.rule e.ensures.rule f.ensures.rule) m t p).1
    (ap (first_value (found_of m)) (id_of b.result limit_option b.ensures.rule) ∙ given))
