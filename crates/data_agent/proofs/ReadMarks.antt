-- What the keeper notes as pages are looked at one behind the other.
use Rattle.std.proofs.Common.{ℕ, ◌≡◌, ◌≤◌, ◌<◌, ◌+◌, ◌-◌, [], ◌++◌, ◌∙◌, inl, inr, true, false, List, length, Some, None, sym, ap, subst, arith, append-nil, append_assoc}
use Rattle.std.specs.Prelude.{option_map}
use Rattle.std.specs.List.{Contains, range_with_len}
use Rattle.std.proofs.lemmas.Bool.{cases_lt}
use Rattle.std.proofs.lemmas.Option.{slice_get_past}
use Rattle.std.proofs.lemmas.List.Elements.{Contains-append_left, Contains-append_right, Contains-push}
use Rattle.spie_base.proofs.Membership.{into_map}
use Rattle.spie_base.specs.Shapes.{shape_of}
use Rattle.spie_base.specs.declared.PageShape.{PageShape}
use Rattle.spie_base.specs.declared.Sig.{Sig}
use Rattle.bloom_page.proofs.Members.{Contains-range}
use Rattle.gate_core.specs.declared.view.Probed.{Probed}
use Rattle.page_gate.specs.Held.{Held}
use Rattle.page_gate.specs.Probes.{HaveAllMarks, ReadsTell, probed_held, read_of, set_reads}
use Rattle.data_agent.specs.declared.agent.Agent.{Agent}
use Rattle.data_agent.specs.declared.closed_page.ClosedPage.{ClosedPage}
use Rattle.data_agent.specs.declared.closed_page.Whereabouts.TheVariants.{InMemory}
use Rattle.data_agent.specs.Planes.{entries_of}
use Rattle.data_agent.specs.Probing.{HasNoted, IsReadUnset, IsSeenIn, IsUnseenIn, ShowsInMemory, StandsInSlot, place_of}
use Rattle.data_agent.specs.Standing.{standing}

-- ---- one call behind the other

pub noted_none : (agent : Agent) → HasNoted agent agent []
noted_none agent =
    ap (λ (reads : List Probed). record agent { keeper = record agent.keeper { view = record agent.keeper.view { duties = record agent.keeper.view.duties { probes = reads } } } }) (sym (append-nil agent.keeper.view.duties.probes))

held_twice : (k : Held) (first more : List Probed) → probed_held (probed_held k first) more ≡ probed_held k (first ++ more)
held_twice k first more =
    ap (λ (reads : List Probed). record k { view = record k.view { duties = record k.view.duties { probes = reads } } }) (append_assoc k.view.duties.probes first more)

pub noted_then : (a b c : Agent) (first more : List Probed) → HasNoted a b first → HasNoted b c more → HasNoted a c (first ++ more)
noted_then a b c first more x y =
    y ∙ ap (λ (d : Agent). record d { keeper = probed_held d.keeper more }) x ∙ ap (λ (k : Held). record a { keeper = k }) (held_twice a.keeper first more)

-- ---- what was read stays read

pub unset_before : (agent : Agent) (first more : List Probed) (page : ℕ) (sig : Sig) → IsReadUnset agent first page sig → IsReadUnset agent (first ++ more) page sig
unset_before agent first more page sig is = record { mark = is.mark; within = is.within; unset = Contains-append_left first more _ is.unset }

pub unseen_before : (agent : Agent) (first more : List Probed) (page : ℕ) (sig : Sig) → IsUnseenIn agent first page sig → IsUnseenIn agent (first ++ more) page sig
unseen_before agent first more page sig is = record { memory = is.memory; slot = λ stands. unset_before agent first more page sig (is.slot stands); gathered = is.gathered }

-- what a later call read, in the words of the agent before
module _ (agent : Agent) (first more : List Probed) (page : ℕ) (sig : Sig) where
  abbrev after : Agent
  after = record agent { keeper = probed_held agent.keeper first }

  memory_back : ShowsInMemory after page sig → ShowsInMemory agent page sig
  memory_back s = record { resident = s.resident; here = s.here; marks = s.marks }

  memory_on : ShowsInMemory agent page sig → ShowsInMemory after page sig
  memory_on s = record { resident = s.resident; here = s.here; marks = s.marks }

  unseen_back : IsUnseenIn after more page sig → IsUnseenIn agent (first ++ more) page sig
  unseen_back is = record {
    memory = λ s. is.memory (memory_on s);
    slot = λ stands. let u = is.slot stands in record { mark = u.mark; within = u.within; unset = Contains-append_right first more _ u.unset };
    gathered = is.gathered;
  }

  seen_back : IsSeenIn after more page sig → IsSeenIn agent (first ++ more) page sig
  seen_back (inl s) = inl (memory_back s)
  seen_back (inr s) = inr (record { stands = s.stands; each = λ i within. Contains-append_right first more _ (s.each i within) })

pub unseen_later : (a b : Agent) (first more : List Probed) (page : ℕ) (sig : Sig) → HasNoted a b first → IsUnseenIn b more page sig → IsUnseenIn a (first ++ more) page sig
unseen_later a b first more page sig noted is = unseen_back a first more page sig (subst (λ (x : Agent). IsUnseenIn x more page sig) noted is)

pub seen_later : (a b : Agent) (first more : List Probed) (page : ℕ) (sig : Sig) → HasNoted a b first → IsSeenIn b more page sig → IsSeenIn a (first ++ more) page sig
seen_later a b first more page sig noted is = seen_back a first more page sig (subst (λ (x : Agent). IsSeenIn x more page sig) noted is)

-- ---- one page

set_each : (shape : PageShape) (page : ℕ) (sig : Sig) (known count i : ℕ) → i < count → Contains (set_reads shape page sig known count) (read_of shape page sig known i true)
set_each shape page sig known count i within = into_map (λ (j : ℕ). read_of shape page sig known j true) (range_with_len 0 count) i (Contains-range count i within)

-- a page that was not collected is not in memory
pub past_none : (agent : Agent) (page : ℕ) (sig : Sig) → agent.catalogue.gone ≤ page → standing agent ≤ page → ShowsInMemory agent page sig → ⊥
past_none agent page sig near past s =
    let none : place_of agent page ≡ None = ap (option_map (λ (c : ClosedPage). c.place)) (slice_get_past agent.closed.items (page - agent.catalogue.gone) (omega arith)) in
    let both : None ≡ Some (InMemory s.resident) = sym none ∙ s.here in
    cc

module _ (agent : Agent) (page : ℕ) (sig : Sig) (more : List Probed) where
  abbrev pub my_shape : PageShape
  my_shape = shape_of agent.rules agent.router.number

  -- what a probe of its keeper tells of it
  pub probe_seen : StandsInSlot agent page → ReadsTell my_shape page sig (length (entries_of agent)) more true → IsSeenIn agent more page sig
  probe_seen stands is = inr (record {
    stands = stands;
    each = λ i within. subst (λ (reads : List Probed). Contains reads (read_of my_shape page sig (length (entries_of agent)) i true)) (sym is) (set_each my_shape page sig (length (entries_of agent)) agent.rules.k i within);
  })

  pub probe_unseen : agent.catalogue.gone ≤ page → standing agent ≤ page → ReadsTell my_shape page sig (length (entries_of agent)) more false
      → (HaveAllMarks my_shape (entries_of agent) page sig → ⊥) → IsUnseenIn agent more page sig
  probe_unseen near past (i, within, is) without = record {
    memory = past_none agent page sig near past;
    slot = λ stands. record {
      mark = i;
      within = within;
      unset = subst (λ (reads : List Probed). Contains reads (read_of my_shape page sig (length (entries_of agent)) i false)) (sym is) (Contains-push (set_reads my_shape page sig (length (entries_of agent)) i) (read_of my_shape page sig (length (entries_of agent)) i false));
    };
    gathered = λ stands. without;
  }

-- ---- pages one behind the other

-- none of the pages of a window before this one, that have not expired, shows the signature
abbrev pub AreUnseen : Agent → (reads : List Probed) → (first bound : ℕ) → Sig → Type 0
AreUnseen agent reads first bound sig = (page : ℕ) → agent.catalogue.gone ≤ page → first ≤ page → page < bound → IsUnseenIn agent reads page sig

pub unseen_more : (a b : Agent) (first_reads more : List Probed) (first page : ℕ) (sig : Sig) → HasNoted a b first_reads → AreUnseen a first_reads first page sig → IsUnseenIn b more page sig
    → AreUnseen a (first_reads ++ more) first (page + 1) sig
unseen_more a b first_reads more first page sig noted before here = λ p near from lt.
    elim (cases_lt p page) [
      | inl less ↦ unseen_before a first_reads more p sig (before p near from less)
      | inr last ↦
          let at : page ≡ p = omega arith in
          subst (λ (n : ℕ). IsUnseenIn a (first_reads ++ more) n sig) at (unseen_later a b first_reads more page sig noted here)
    ]
