use Rattle.std.proofs.Common.{◌≡◌, Some, None, find, rules}
use Rattle.map_model.specs.Groups.{all_drawn}
use Rattle.map_model.specs.Properties.{is_drawn_with, tier_of}
use Rattle.map_model.proofs.Lookups.{tier_of-low}
use Rattle.map_model.proofs.Tiers.{tier_by-found, tier_by-none, tier_found}
use Rattle.map_model.proofs.map.Map.tier_of.Goals as goal

pub returns-in-Some-clause-tier : goal.returns-in-Some-clause-tier
returns-in-Some-clause-tier c =
    let m = c.args.self.now in
    let is : tier_found c.args.id (all_drawn m.layers) ≡ Some c.in-Some.tier = search rules in
    tier_by-found (find (is_drawn_with c.args.id) (all_drawn m.layers)) c.in-Some.tier is

pub returns-in-Some-clause-low : goal.returns-in-Some-clause-low
returns-in-Some-clause-low c =
    let m = c.args.self.now in
    let is : tier_found c.args.id (all_drawn m.layers) ≡ Some c.in-Some.tier = search rules in
    let same : c.in-Some.tier ≡ tier_of m c.args.id = tier_by-found (find (is_drawn_with c.args.id) (all_drawn m.layers)) c.in-Some.tier is in
    rw same (tier_of-low m c.args.id)

pub returns-in-None-clause-tier : goal.returns-in-None-clause-tier
returns-in-None-clause-tier c =
    let m = c.args.self.now in
    let is : tier_found c.args.id (all_drawn m.layers) ≡ None = search rules in
    tier_by-none (find (is_drawn_with c.args.id) (all_drawn m.layers)) is
