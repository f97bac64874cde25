use Rattle.std.proofs.Common.{refl}
use Rattle.std.proofs.lemmas.Option.{slice_get_read}
use Rattle.gate_core.proofs.acts.drain.add_word.Goals as goal

pub returns : goal.returns
returns c = record {
  before = c.index_mut.result.now;
  after = c.push_reserved.new.self;
  was = slice_get_read c.args.lists.now.items _ c.args.page c.index_mut.result.now refl c.requires.within c.index_mut.ensures.value;
  becomes = refl;
  words = c.push_reserved.ensures.items;
  word_room = c.push_reserved.ensures.capacity;
  list_room = refl;
}
