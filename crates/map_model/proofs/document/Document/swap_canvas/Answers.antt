use Rattle.std.proofs.Common.{rules, ◌≡◌, length, ap, ◌∙◌, subst}
use Rattle.std.specs.List.{flat_map}
use Rattle.map_model.specs.declared.document.Document.TheInside.{Inside}
use Rattle.map_model.specs.Canvas.{lists_of, tile_layers, with_lists}
use Rattle.map_model.specs.Groups.{all_drawn}
use Rattle.map_model.specs.Document.{DocumentParts, IsDocument}
use Rattle.map_model.proofs.CanvasSteps.{left-all}
use Rattle.map_model.proofs.CanvasLaws.{on-parts, turned-as, back-as, document-as, tile_layers-on}
use Rattle.map_model.proofs.document.Document.swap_canvas.Goals as goal

pub invariant_of-self : goal.invariant_of-self
invariant_of-self c =
    let m = c.self-inside.inside.0.0.parts in
    let is : m ≡ c.args.self.now.map = ap (λ (i : Inside). i.map) c.self-inside.view_is ∙ ap (λ (d : DocumentParts). d.map) c.self.view_is in
    let lists = flat_map lists_of (all_drawn m.layers) in
    let long : length c.args.canvas.now.layers ≡ length lists = rw is c.requires.count in
    let back = c.exchange_layers.ensures.canvas ∙ ap (λ xs. with_lists xs c.args.canvas.now) (left-all lists c.args.canvas.now.layers long) in
    document-as c.args.canvas.now c.args.self.now _
    (on-parts c.args.canvas.now c.exchange_layers.new.canvas c.args.self.now m c.swap-3.new.x c.swap.new.x c.swap-2.new.x lists c.exchange_layers.new.layers is
    back c.swap.ensures.x_after c.swap-2.ensures.x_after c.exchange_layers.ensures.layers c.swap-3.ensures.x_after)
    c.requires (subst IsDocument c.self.view_is c.self.invariant)

pub invariant_of-self-inside : goal.invariant_of-self-inside
invariant_of-self-inside c = (invariant_of-self c).map

pub returns-clause-document : goal.returns-clause-document
returns-clause-document c =
    let m = c.self-inside.inside.0.0.parts in
    let is : m ≡ c.args.self.now.map = ap (λ (i : Inside). i.map) c.self-inside.view_is ∙ ap (λ (d : DocumentParts). d.map) c.self.view_is in
    let lists = flat_map lists_of (all_drawn m.layers) in
    let long : length c.args.canvas.now.layers ≡ length lists = rw is c.requires.count in
    let back = c.exchange_layers.ensures.canvas ∙ ap (λ xs. with_lists xs c.args.canvas.now) (left-all lists c.args.canvas.now.layers long) in
    on-parts c.args.canvas.now c.exchange_layers.new.canvas c.args.self.now m c.swap-3.new.x c.swap.new.x c.swap-2.new.x lists c.exchange_layers.new.layers is
    back c.swap.ensures.x_after c.swap-2.ensures.x_after c.exchange_layers.ensures.layers c.swap-3.ensures.x_after

pub returns-clause-given : goal.returns-clause-given
returns-clause-given c =
    let m = c.self-inside.inside.0.0.parts in
    let is : m ≡ c.args.self.now.map = ap (λ (i : Inside). i.map) c.self-inside.view_is ∙ ap (λ (d : DocumentParts). d.map) c.self.view_is in
    let lists = flat_map lists_of (all_drawn m.layers) in
    let long : length c.args.canvas.now.layers ≡ length lists = rw is c.requires.count in
    let back = c.exchange_layers.ensures.canvas ∙ ap (λ xs. with_lists xs c.args.canvas.now) (left-all lists c.args.canvas.now.layers long) in
    search (rules, back, is)

pub returns-clause-back : goal.returns-clause-back
returns-clause-back c =
    back-as c.args.canvas.now _ c.args.self.now _ (returns-clause-given c) (returns-clause-document c) c.requires
    (subst IsDocument c.self.view_is c.self.invariant)

pub returns-clause-turned : goal.returns-clause-turned
returns-clause-turned c = turned-as c.args.canvas.now _ c.args.self.now _ (returns-clause-given c) (returns-clause-document c)

pub returns-clause-cells : goal.returns-clause-cells
returns-clause-cells c =
    ap (λ (d : DocumentParts). tile_layers d.map) (returns-clause-document c) ∙ tile_layers-on c.args.canvas.now c.args.self.now.map c.requires.count

pub returns-clause-well_formed : goal.returns-clause-well_formed
returns-clause-well_formed c =
    document-as c.args.canvas.now c.args.self.now _ (returns-clause-document c) c.requires (subst IsDocument c.self.view_is c.self.invariant)
