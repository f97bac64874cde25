use Rattle.std.proofs.Common.{◌≡◌, ◌∷◌, ◌++◌, ◌∙◌, List, sym, ap, subst}
use Rattle.std.specs.List.{Contains, flat_map}
use Rattle.std.specs.List.Sorted.{IsStrictlySortedBy}
use Rattle.spie_base.proofs.Membership.{has_first}
use Rattle.spie_base.specs.Ascending.{in_order}
use Rattle.spie_base.specs.Order.{sig_cmp}
use Rattle.spie_base.specs.declared.Sig.{Sig}
use Rattle.packet_signature.specs.Row.{key_of}
use Rattle.transform_table.specs.Tables.{with_key}
use Rattle.data_agent.specs.declared.sight.Sight.{Sight}
use Rattle.data_agent.specs.Looking.{undone_by}
use Rattle.data_agent.specs.Seeing.{undone_in}
use Rattle.data_agent.proofs.Ordered.{gathered, sigs_ascend, sigs_have}
use Rattle.data_agent.proofs.sight.SightSighting.origins.Goals as goal

abbrev in_memory : Sight → Sig → List Sig
in_memory sight sig = undone_in sight.first sight.last sig (with_key (key_of sig) sight.rows.now)

abbrev read_back : Sight → Sig → List Sig
read_back sight sig = flat_map (undone_by sig) sight.looks.items

abbrev all_olds : Sight → Sig → List Sig
all_olds sight sig = sig ∷ (in_memory sight sig ++ read_back sight sig)

pub returns-clause-exact : goal.returns-clause-exact
returns-clause-exact c =
    let all : c.undo_read.new.origins.olds ≡ all_olds c.args.self.now c.args.sig.now =
    gathered c.args.sig.now c.in_ok-origins.origins.sig c.undo.new.origins.sig c.in_ok-origins.origins.olds c.undo.new.origins.olds c.undo_read.new.origins.olds (in_memory c.args.self.now) (read_back c.args.self.now)
    c.in_ok-origins.ensures.sig c.undo.ensures.sig c.in_ok-origins.ensures.itself c.in_ok-undo.ensures.more c.in_ok-undo_read.ensures.more in
    c.into_ascending.ensures ∙ ap (in_order sig_cmp) all

pub returns-clause-ascending : goal.returns-clause-ascending
returns-clause-ascending c = subst (IsStrictlySortedBy sig_cmp) (sym c.into_ascending.ensures) (sigs_ascend c.undo_read.new.origins.olds)

pub returns-clause-itself : goal.returns-clause-itself
returns-clause-itself c =
    let has : Contains (in_order sig_cmp (all_olds c.args.self.now c.args.sig.now)) c.args.sig.now =
    (sigs_have (all_olds c.args.self.now c.args.sig.now) c.args.sig.now).1 (has_first c.args.sig.now (in_memory c.args.self.now c.args.sig.now ++ read_back c.args.self.now c.args.sig.now)) in
    subst (λ (found : List Sig). Contains found c.args.sig.now) (sym (returns-clause-exact c)) has
