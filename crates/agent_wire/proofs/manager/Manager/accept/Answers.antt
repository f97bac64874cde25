use Rattle.std.proofs.Common.{◌≡◌, ◌∙◌, ◌<◌, ℕ, ◌++◌, ap, sym, subst, List, length, set, slice_get, Some}
use Rattle.std.specs.List.{Contains}
use Rattle.reverse_flood.specs.declared.graphs.Node.{Node}
use Rattle.reverse_flood.specs.Flood.{IsListOf, node_cmp}
use Rattle.agent_wire.specs.declared.requests.Asked.{Asked}
use Rattle.agent_wire.specs.Accepting.{IsNew, requests_for, with_part}
use Rattle.agent_wire.specs.Requests.{IsEntry}
use Rattle.agent_wire.specs.Union.{first_open}
use Rattle.agent_wire.specs.Sets.{HasMore, IsKept}
use Rattle.agent_wire.proofs.EntryFacts.{below_more, kept_more, kept_same, news_same, settled_more, written}
use Rattle.agent_wire.proofs.manager.Manager.accept.Goals as goal

pub requests_for-requires : goal.requests_for-requires
requests_for-requires c = let At : List Node → Type 0 = λ xs. (n : Node) → Contains xs n → n.router.number < length c.args.topology.now.names in
    record { exist = subst At (sym c.items.ensures) (λ n h. ((c.in_ok-pairs.ensures.same n).0 h).exists) }

pub add_requests-requires : goal.add_requests-requires
add_requests-requires c = let At : List Node → Type 0 = λ xs. (n : Node) → Contains xs n → Contains c.self.inside.known.keys n → ⊥ in
    record { outside = subst At (sym c.items-2.ensures) (λ n h. ((c.in_ok-pairs.ensures.same n).0 h).unknown) }

pub invariant_of-self : goal.invariant_of-self
invariant_of-self c = record {
  kept = kept_same _ _ _ _ c.in_err-add_requests.ensures.same c.in_err-add_requests.ensures.forgot c.self.invariant.kept;
  pending_is = c.self.invariant.pending_is ∙ ap first_open (sym c.in_err-add_requests.ensures.same);
}

stood_in : (c : goal.After-drop-pairs-inside-2) → slice_get c.self.inside.made.items c.args.number ≡ Some c.requires.stood.of
stood_in c = ap (λ (xs : List Asked). slice_get xs c.args.number) c.self.view_is ∙ c.requires.stood.stood

made_is : (c : goal.After-drop-pairs-inside-2) → c.add_requests.new.made.items ≡ c.self.inside.made.items ++ requests_for c.args.topology.now c.in_ok-pairs.pairs
made_is c =
    c.in_ok-add_requests.ensures.made
    ∙ ap (λ (xs : List Asked). c.self.inside.made.items ++ xs) (c.in_ok-more.ensures ∙ ap (λ (xs : List Node). requests_for c.args.topology.now xs) c.items.ensures)

pub index_mut-requires : goal.index_mut-requires
index_mut-requires c =
    let stood : slice_get c.self.inside.made.items c.args.number ≡ Some c.requires.stood.of = ap (λ (xs : List Asked). slice_get xs c.args.number) c.self.view_is ∙ c.requires.stood.stood in
    let l : c.args.number < length c.add_requests.new.made.items = below_more _ _ _ _ _ stood c.in_ok-add_requests.ensures.made in
    subst (λ (m : ℕ). c.args.number < m) (sym c.add_requests.new.made.ok.0) l

part_written : (c : goal.After-drop-pairs-inside-2) → set c.add_requests.new.made.items c.args.number (with_part c.index_mut.result.now c.args.part) ≡ set c.self.inside.made.items c.args.number (with_part c.requires.stood.of c.args.part) ++ requests_for c.args.topology.now c.in_ok-pairs.pairs
part_written c = written _ _ _ _ _ _ _ (stood_in c) (made_is c) c.index_mut.ensures.value

pub first_open-self-inside-requires : goal.first_open-self-inside-requires
first_open-self-inside-requires c =
    let stood : slice_get c.self.inside.made.items c.args.number ≡ Some c.requires.stood.of = ap (λ (xs : List Asked). slice_get xs c.args.number) c.self.view_is ∙ c.requires.stood.stood in
    let put = c.deref.ensures.value ∙ written _ _ _ _ _ _ c.args.part stood c.in_ok-add_requests.ensures.made c.index_mut.ensures.value in
    settled_more _ _ c.deref.result.now c.args.number _ c.args.part c.self.inside.pending stood put c.self.invariant.pending_is

kept_after : (c : goal.After-drop-pairs-inside-2) → IsKept (set c.add_requests.new.made.items c.args.number (with_part c.index_mut.result.now c.args.part)) c.add_requests.new.known
kept_after c = let At : List Asked → Type 0 = λ xs. IsKept xs c.add_requests.new.known in
    let more : HasMore c.self.inside.known c.add_requests.new.known c.in_ok-pairs.pairs = (let P : List Node → Type 0 = λ xs. HasMore c.self.inside.known c.add_requests.new.known xs in subst P c.items-2.ensures c.in_ok-add_requests.ensures.known) in
    subst At (sym (part_written c)) (kept_more c.args.topology.now _ _ _ _ _ _ _ c.topology_is_sound.ensures (stood_in c) c.in_ok-pairs.ensures more c.self.invariant.kept)

pub invariant_of-self-2 : goal.invariant_of-self-2
invariant_of-self-2 c = record { kept = kept_after c; pending_is = c.first_open-self-inside.ensures ∙ ap first_open c.deref.ensures.value }

pub returns-clause-accepted : goal.returns-clause-accepted
returns-clause-accepted c = record {
  of = c.requires.stood.of;
  stood = c.requires.stood.stood;
  unanswered = c.requires.stood.unanswered;
  pairs = c.in_ok-pairs.pairs;
  new_pairs = (let P : List Asked → Type 0 = λ xs. IsListOf node_cmp (IsNew c.args.topology.now (IsEntry xs) c.args.part) c.in_ok-pairs.pairs in
      subst P c.self.view_is (news_same c.args.topology.now _ _ _ _ c.self.invariant.kept c.in_ok-pairs.ensures));
  is = part_written c ∙ ap (λ (xs : List Asked). set xs c.args.number (with_part c.requires.stood.of c.args.part) ++ requests_for c.args.topology.now c.in_ok-pairs.pairs) c.self.view_is;
}
