use Rattle.std.proofs.Common.{◌≡◌, ◌∙◌, true, subst, List, Option, map, refl, sym, ap, codes}
use Rattle.std.specs.Prelude.{unwrap_or}
use Rattle.std.specs.Borrow.{Bor}
use Rattle.clap.specs.Words.{App, Text, fault_of, first_of, found_of, is_simple, is_simple_and_free, matches_of, one_of, one_text}
use Rattle.clap.proofs.OnLiterals.{clap_on_literals}
use Rattle.clap.proofs.WalkLemmas.{first_value-rows, one_text-rows}
use Rattle.tile_editor.specs.Options.{command, value_or_zero, IsFlag}
use Rattle.tile_editor.proofs.CommandLines.{read_IsFlag, unwrapped_text}
use Rattle.tile_editor.proofs.command_line.options.Goals as goal

command_is_free : is_simple_and_free command ≡ true
unfolding clap_on_literals
command_is_free = refl

command_is_simple : is_simple command ≡ true
unfolding clap_on_literals
command_is_simple = refl

pub returns-in-Ok-clause-answer : goal.returns-in-Ok-clause-answer
returns-in-Ok-clause-answer g c =
    let made = c.in_ok-command.ensures.app in
    ap (λ (a : App). fault_of a (map g.S.AsStr.text c.args.words.now)) (sym made) ∙ c.in-Ok.ensures.kinds (ap is_simple_and_free made ∙ command_is_free)

pub returns-in-Ok-clause-folder : goal.returns-in-Ok-clause-folder
returns-in-Ok-clause-folder g c =
    let made = c.in_ok-command.ensures.app in
    let words : List Text = map g.S.AsStr.text c.args.words.now in
    let rows = (c.in-Ok.ensures.matches (ap is_simple made ∙ command_is_simple)).0 ∙ ap (λ (a : App). matches_of a words) made in
    ap (λ (s : Bor Text). s.now) c.unwrap_or.ensures ∙ unwrapped_text c.get_str.result _
    ∙ ap (λ (o : Option Text). unwrap_or o (codes ".")) (c.get_str.ensures ∙ first_value-rows (found_of c.in-Ok.matches) (codes "folder") ∙ ap
    (first_of (codes "folder")) rows)

pub returns-in-Ok-clause-limit : goal.returns-in-Ok-clause-limit
returns-in-Ok-clause-limit g c =
    let made = c.in_ok-command.ensures.app in
    let words : List Text = map g.S.AsStr.text c.args.words.now in
    let rows = (c.in-Ok.ensures.matches (ap is_simple made ∙ command_is_simple)).0 ∙ ap (λ (a : App). matches_of a words) made in
    c.limit_in.ensures.value
    ∙ ap value_or_zero (c.get_str-in-Ok.ensures ∙ first_value-rows (found_of c.in-Ok.matches) (codes "limit") ∙ ap (first_of (codes "limit")) rows)

pub returns-in-Ok-clause-strict : goal.returns-in-Ok-clause-strict
returns-in-Ok-clause-strict g c =
    let made = c.in_ok-command.ensures.app in
    let words : List Text = map g.S.AsStr.text c.args.words.now in
    let rows = (c.in-Ok.ensures.matches (ap is_simple made ∙ command_is_simple)).0 ∙ ap (λ (a : App). matches_of a words) made in
    let read : one_text (found_of c.in-Ok.matches) (codes "strict") ≡ one_of (codes "strict") (matches_of command words) =
    one_text-rows (found_of c.in-Ok.matches) (codes "strict") ∙ ap (one_of (codes "strict")) rows in
    subst (λ (o : Option Text). IsFlag o c.get_flag.result) read
    (read_IsFlag (one_text (found_of c.in-Ok.matches) (codes "strict")) c.get_flag.result c.get_flag.ensures.none c.get_flag.ensures.value
    c.get_flag.ensures.other)

pub returns-in-Ok-clause-all_maps : goal.returns-in-Ok-clause-all_maps
returns-in-Ok-clause-all_maps g c =
    let made = c.in_ok-command.ensures.app in
    let words : List Text = map g.S.AsStr.text c.args.words.now in
    let rows = (c.in-Ok.ensures.matches (ap is_simple made ∙ command_is_simple)).0 ∙ ap (λ (a : App). matches_of a words) made in
    let flag = c.get_flag-in-Ok in
    let read : one_text (found_of c.in-Ok.matches) (codes "all_maps") ≡ one_of (codes "all_maps") (matches_of command words) =
    one_text-rows (found_of c.in-Ok.matches) (codes "all_maps") ∙ ap (one_of (codes "all_maps")) rows in
    subst (λ (o : Option Text). IsFlag o flag.result) read
    (read_IsFlag (one_text (found_of c.in-Ok.matches) (codes "all_maps")) flag.result flag.ensures.none flag.ensures.value flag.ensures.other)

pub returns-in-Ok-clause-all_edits : goal.returns-in-Ok-clause-all_edits
returns-in-Ok-clause-all_edits g c =
    let made = c.in_ok-command.ensures.app in
    let words : List Text = map g.S.AsStr.text c.args.words.now in
    let rows = (c.in-Ok.ensures.matches (ap is_simple made ∙ command_is_simple)).0 ∙ ap (λ (a : App). matches_of a words) made in
    let flag = c.get_flag-in-Ok-2 in
    let read : one_text (found_of c.in-Ok.matches) (codes "all_edits") ≡ one_of (codes "all_edits") (matches_of command words) =
    one_text-rows (found_of c.in-Ok.matches) (codes "all_edits") ∙ ap (one_of (codes "all_edits")) rows in
    subst (λ (o : Option Text). IsFlag o flag.result) read
    (read_IsFlag (one_text (found_of c.in-Ok.matches) (codes "all_edits")) flag.result flag.ensures.none flag.ensures.value flag.ensures.other)
