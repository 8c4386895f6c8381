-- A layer, by the members that a layer of any kind has and by what it holds.
use Rattle.std.proofs.Common.{◌≡◌, ℕ, List, None, Some, refl, sym, ap, ◌∙◌, subst}
use Rattle.std.specs.Prelude.{Result, Ok, Err}
use Rattle.serde_json.specs.Data.{Data, Members}
use Rattle.serde_json.specs.Find.{as_object}
use Rattle.map_model.specs.declared.parts.Body.{Body}
use Rattle.map_model.specs.declared.parts.Layer.{Layer}
use Rattle.map_model.specs.Format.{common_names, body_names, layer_names}
use Rattle.map_model.specs.Refusing.{◌>>=◌}
use Rattle.map_json.specs.declared.body.NoData.{NoData}
use Rattle.map_json.specs.declared.layer.Head.{Head}
use Rattle.refusals.specs.declared.map_refusal.MapRefusal.{MapRefusal}
use Rattle.refusals.specs.declared.map_refusal.MapRefusal.TheVariants.{MemberOfAnotherKind}
use Rattle.map_values.specs.declared.fault.MapFault.{MapFault}
use Rattle.map_values.specs.Presence.{Fails}
use Rattle.map_json.specs.Elements.{Counting}
use Rattle.json_members.specs.Members.{without_all}
use Rattle.map_json.specs.Reading.{head_of, body_by, layer_by}
use Rattle.map_json.proofs.Bodies.{body_by_common}
use Rattle.map_json.proofs.Parts.{Fails->>=}

-- a value that is no object
pub layer_by-no_object : (no_data : NoData) (inner : Counting (List Layer)) (width height count : ℕ) (d : Data) → as_object d ≡ None
    → layer_by no_data inner width height count d ≡ Err MemberOfAnotherKind
unfolding layer_by
layer_by-no_object no_data inner width height count d none = rw none refl

module _ (no_data : NoData) (inner : Counting (List Layer)) (width height count : ℕ) (d : Data) (ms : Members) (members : as_object d ≡ Some ms) where
  abbrev rest : Head → Result (ℕ × Layer) MapRefusal
  rest h =
      body_by no_data inner h.kind width height count ms
      >>= λ body.
      Ok (
        body.0,
        record {
          id = h.id;
          name = h.name;
          visible = h.visible;
          properties = h.properties;
          kept = without_all (layer_names body.1) ms;
          body = body.1;
        },
      )

  layer_by-head : layer_by no_data inner width height count d ≡ (head_of ms >>= rest)
  unfolding layer_by
  layer_by-head = rw members refl

  pub head_refused : (f : MapFault) → Fails f (head_of ms) → Fails f (layer_by no_data inner width height count d)
  head_refused f fails = rw layer_by-head (Fails->>= f (head_of ms) rest fails)

  -- what is left after those members were taken out
  module _ (h : Head) (is : head_of ms ≡ Ok h) (left : Members) (taken : left ≡ without_all common_names ms) where
    there : body_by no_data inner h.kind width height count left ≡ body_by no_data inner h.kind width height count ms
    there = ap (body_by no_data inner h.kind width height count) taken ∙ body_by_common no_data inner h.kind width height count ms

    pub body_refused : (f : MapFault) → Fails f (body_by no_data inner h.kind width height count left) → Fails f (layer_by no_data inner width height count d)
    body_refused f fails = rw (layer_by-head, is) (Fails->>= f (body_by no_data inner h.kind width height count ms) _ (subst (Fails f) there fails))

    pub layer_read : (then : ℕ) (body : Body) (unread : Members) → body_by no_data inner h.kind width height count left ≡ Ok (then, body)
        → unread ≡ without_all (body_names body) left
        → layer_by no_data inner width height count d
        ≡ Ok (then, record { id = h.id; name = h.name; visible = h.visible; properties = h.properties; kept = unread; body = body })
    layer_read then body unread e out =
        let all : unread ≡ without_all (layer_names body) ms = out ∙ ap (without_all (body_names body)) taken in
        rw (layer_by-head, is, sym there ∙ e, all) refl
