use Rattle.std.proofs.Common.{rules, ◌≡◌, true, Some, None, inr, subst}
use Rattle.tiled_maps.specs.Texts.{text_or}
use Rattle.tiled_store.specs.Stored.{IsSourceOf, PutsFor}
use Rattle.tiled_store.proofs.Putting.{on_ok, puts_by, source_by}
use Rattle.tiled_store.proofs.tiled_store.TiledStore.put.Goals as goal

pub returns-in-Some-clause-kept : goal.returns-in-Some-clause-kept
returns-in-Some-clause-kept g c =
    let bytes = c.args.bytes.now in
    let source = c.as_slice.result.now in
    let file = c.as_slice-in-Some.result.now in
    let has : c.args.self.now.sets_aside ≡ true = search rules in
    let is : IsSourceOf c.args.name.now (g.Q.MapStore.stored c.args.self.now.sources) source
    = rw c.as_slice.ensures.value c.in_ok-source.ensures.source in
    let own : PutsFor c.args.name.now source bytes (text_or bytes (Some c.in-Some.text))
    = subst (λ o. PutsFor c.args.name.now source bytes (text_or bytes o)) c.in-Some.is c.in_ok-text.ensures.puts in
    let puts : PutsFor c.args.name.now source bytes file = rw c.as_slice-in-Some.ensures.value own in
    on_ok c.store-in-Some.result c.store-in-Some.ensures.kept
    (λ (kept : g.S.MapStore.keeps c.store-in-Some.new.self c.args.name.now file).
    (source, file, source_by _ _ _ _ has is, puts_by _ _ _ _ _ has puts, kept))

pub returns-in-Some-clause-safe : goal.returns-in-Some-clause-safe
returns-in-Some-clause-safe g c =
    let bytes = c.args.bytes.now in
    let source = c.as_slice.result.now in
    let file = c.as_slice-in-Some.result.now in
    let has : c.args.self.now.sets_aside ≡ true = search rules in
    let is : IsSourceOf c.args.name.now (g.Q.MapStore.stored c.args.self.now.sources) source
    = rw c.as_slice.ensures.value c.in_ok-source.ensures.source in
    let own : PutsFor c.args.name.now source bytes (text_or bytes (Some c.in-Some.text))
    = subst (λ o. PutsFor c.args.name.now source bytes (text_or bytes o)) c.in-Some.is c.in_ok-text.ensures.puts in
    let puts : PutsFor c.args.name.now source bytes file = rw c.as_slice-in-Some.ensures.value own in
    let safe : g.S.MapStore.loses_nothing c.args.self.now.store c.store-in-Some.new.self c.args.name.now file
    = subst (λ s. g.S.MapStore.loses_nothing s c.store-in-Some.new.self c.args.name.now file) c.source_of.ensures.store c.store-in-Some.ensures.safe in
    inr (source, file, source_by _ _ _ _ has is, puts_by _ _ _ _ _ has puts, safe)

pub returns-clause-kept : goal.returns-clause-kept
returns-clause-kept g c =
    let bytes = c.args.bytes.now in
    let source = c.as_slice.result.now in
    let file = bytes in
    let has : c.args.self.now.sets_aside ≡ true = search rules in
    let is : IsSourceOf c.args.name.now (g.Q.MapStore.stored c.args.self.now.sources) source
    = rw c.as_slice.ensures.value c.in_ok-source.ensures.source in
    let own : PutsFor c.args.name.now source bytes (text_or bytes None)
    = subst (λ o. PutsFor c.args.name.now source bytes (text_or bytes o)) c.in-None.is c.in_ok-text.ensures.puts in
    let puts : PutsFor c.args.name.now source bytes file = own in
    on_ok c.store-in-None.result c.store-in-None.ensures.kept
    (λ (kept : g.S.MapStore.keeps c.store-in-None.new.self c.args.name.now file).
    (source, file, source_by _ _ _ _ has is, puts_by _ _ _ _ _ has puts, kept))

pub returns-clause-safe : goal.returns-clause-safe
returns-clause-safe g c =
    let bytes = c.args.bytes.now in
    let source = c.as_slice.result.now in
    let file = bytes in
    let has : c.args.self.now.sets_aside ≡ true = search rules in
    let is : IsSourceOf c.args.name.now (g.Q.MapStore.stored c.args.self.now.sources) source
    = rw c.as_slice.ensures.value c.in_ok-source.ensures.source in
    let own : PutsFor c.args.name.now source bytes (text_or bytes None)
    = subst (λ o. PutsFor c.args.name.now source bytes (text_or bytes o)) c.in-None.is c.in_ok-text.ensures.puts in
    let puts : PutsFor c.args.name.now source bytes file = own in
    let safe : g.S.MapStore.loses_nothing c.args.self.now.store c.store-in-None.new.self c.args.name.now file
    = subst (λ s. g.S.MapStore.loses_nothing s c.store-in-None.new.self c.args.name.now file) c.source_of.ensures.store c.store-in-None.ensures.safe in
    inr (source, file, source_by _ _ _ _ has is, puts_by _ _ _ _ _ has puts, safe)
