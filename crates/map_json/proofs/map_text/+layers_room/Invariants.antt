use Rattle.map_json.proofs.map_text.+layers_room.Given as goal

abbrev pub decreases-layers_room : goal.decreases-layers_room
decreases-layers_room l = l.groups
