-- Lists that have the same entries, in any order and number.
use Rattle.std.specs.Prelude.{◌↔◌, List}
use Rattle.std.specs.List.{Contains}
use Rattle.spie_base.specs.declared.Entry.{Entry}

abbrev pub HaveSameMembers : List Entry → List Entry → Type 0
HaveSameMembers a b = (entry : Entry) → Contains a entry ↔ Contains b entry
