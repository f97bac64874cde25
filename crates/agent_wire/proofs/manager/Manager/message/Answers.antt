use Rattle.std.proofs.Common.{◌≡◌, ◌∙◌, ◌<◌, ap, subst, sym, List, length, slice_get, Some}
use Rattle.std.proofs.lemmas.Option.{slice_get-get_or}
use Rattle.reverse_flood.specs.declared.graphs.Node.{Node}
use Rattle.wire_message.specs.Spelling.{IsMessage, IsPlainList, IsPlainNode}
use Rattle.wire_message.specs.declared.messages.Message.TheVariants.{Ask}
use Rattle.agent_wire.specs.declared.requests.Asked.{Asked}
use Rattle.agent_wire.proofs.manager.Manager.message.Goals as goal

pub returns : goal.returns
returns c =
    let of : Asked = c.index-asked.result.now in
    let below : c.args.number < length c.self.inside.made.items = subst (λ (xs : List Asked). c.args.number < length xs) (sym c.self.view_is) c.requires.exists in
    let stood : slice_get c.self.inside.made.items c.args.number ≡ Some of = slice_get-get_or c.self.inside.made.items c.args.number of below ∙ ap (λ (q : Asked). Some q) (sym c.index-asked.ensures) in
    let copied : c.of.result ≡ of.entries = c.of.ensures ∙ c.in_ok-from_slice.ensures.items ∙ c.items-entries.ensures in
    let Is : List Node → Type 0 = λ xs. IsMessage c.in_ok-bytes.bytes.items (Ask record { number = c.args.number; region = of.region; entries = xs }) in
    let Plain : List Node → Type 0 = λ xs. IsPlainList IsPlainNode xs in
    record {
      of = of;
      stood = subst (λ (xs : List Asked). slice_get xs c.args.number ≡ Some of) c.self.view_is stood;
      spells = record {
        is = subst Is copied c.in_ok-bytes.ensures.is;
        plain = record { number = c.ranges.number.fits; region = c.region_is_plain.ensures; entries = subst Plain c.items-entries.ensures c.nodes_are_plain.ensures };
      };
    }
