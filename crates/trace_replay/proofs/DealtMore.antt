-- One router more whose passes were dealt.
use Rattle.std.proofs.Common.{ℕ, zero, suc, ◌≡◌, ◌≢◌, ◌<◌, ◌+◌, ◌∷◌, [], ◌++◌, ◌∙◌, ⊎_elim, List, length, get_or, set, take, sym, ap, refl, subst, arith, length-set, length-append}
use Rattle.std.specs.Prelude.{Vec}
use Rattle.std.specs.declared.alloc.Global.{Global}
use Rattle.std.proofs.lemmas.Grind.{get_or-set_at}
use Rattle.std.proofs.lemmas.List.{get_or-set_other, take_more}
use Rattle.spie_base.specs.declared.Entry.{Entry}
use Rattle.page_gate.specs.Held.{PassHeld, PlaneId}
use Rattle.data_agent.specs.declared.Agent.{Agent}
use Rattle.trace_workers.specs.declared.Job.{Job}
use Rattle.trace_workers.specs.Columns.{HaveGot}
use Rattle.trace_replay.specs.Dealt.{AreColumns, HaveDealt, HaveFresh, IsColumn, IsDealer, fresh_passes}
use Rattle.trace_replay.specs.Operating.{KeepEntries}
use Rattle.data_agent.specs.Beside.{fresh_pass}
use Rattle.trace_replay.proofs.Beside.{get_any}
use Rattle.trace_replay.proofs.Sums.{same_or, each_push}

pub fresh_length : (planes : List PlaneId) (agents : List Agent) → length planes ≡ length agents → length (fresh_passes planes agents) ≡ length planes
fresh_length [] agents e = refl
fresh_length (plane ∷ planes) [] e = absurd (omega (arith, e))
fresh_length (plane ∷ planes) (agent ∷ agents) e = let n = fresh_length planes agents (omega (arith, e)) in omega (arith, n)

pub fresh_at : (planes : List PlaneId) (agents : List Agent) (i : ℕ) (p : PlaneId) (a : Agent) (d : PassHeld) → length planes ≡ length agents → i < length planes
    → get_or (fresh_passes planes agents) i d ≡ fresh_pass (get_or planes i p) (get_or agents i a)
fresh_at [] agents i p a d e l = absurd (omega (arith, l))
fresh_at (plane ∷ planes) [] i p a d e l = absurd (omega (arith, e))
fresh_at (plane ∷ planes) (agent ∷ agents) zero p a d e l = refl
fresh_at (plane ∷ planes) (agent ∷ agents) (suc i) p a d e l = fresh_at planes agents i p a d (omega (arith, e)) (omega (arith, l))

module _ (W i : ℕ) (before mid : List Agent) (x new : Agent) (so : HaveDealt W i before mid) (within : i < length mid) where
  -- the next router's agent is as it was
  pub next_same : (d : Agent) → get_or mid i x ≡ get_or before i d
  next_same d = get_any mid i x d within ∙ so.rest i d (omega arith)

  pub dealt_more : IsDealer W (get_or mid i x) new → HaveDealt W (i + 1) before (set mid i new)
  dealt_more one = record {
    same = length-set mid i new ∙ so.same;
    dealt = λ r d l. ⊎_elim
        (λ (e : r ≡ i).
        let P : Agent → Type 0 = λ a. IsDealer W a (get_or (set mid i new) r d) in
        let Q : Agent → Type 0 = λ a. IsDealer W (get_or mid i x) a in
        subst P (next_same d ∙ ap (λ (k : ℕ). get_or before k d) (sym e)) (subst Q (sym (get_or-set_at mid i r new d e within)) one))
        (λ (ne : r ≢ i).
        let less : r < i = omega (arith, l, ne) in
        let Q : Agent → Type 0 = λ a. IsDealer W (get_or before r d) a in
        subst Q (sym (get_or-set_other mid i r new d ne)) (so.dealt r d less))
        (same_or r i);
    rest = λ r d l. get_or-set_other mid i r new d (let ne : r ≢ i = omega (arith, l) in ne) ∙ so.rest r d (omega (arith, l));
  }

pub fresh_more : (i : ℕ) (planes : List PlaneId) (agents : List Agent) (before mid after : List Job) (pass : PassHeld) → i < length (fresh_passes planes agents) → get_or (fresh_passes planes agents) i pass ≡ pass
    → HaveFresh i planes agents before mid → HaveGot mid after pass → HaveFresh (i + 1) planes agents before after
fresh_more i planes agents before mid after pass within is so got = record {
  many = got.many ∙ so.many;
  each = λ w d l.
      let n = so.many in
      let had = so.each w d l in
      let now = got.each w d (omega (arith, l, n)) in
      let L = fresh_passes planes agents in
      record {
        passes_are = now.passes ∙ ap (λ (ps : List PassHeld). ps ++ pass ∷ []) had.passes_are ∙ ap (λ (p : PassHeld). take i L ++ p ∷ []) (sym is) ∙ sym (take_more L i pass within);
        room = now.room ∙ had.room;
        places = now.places ∙ had.places;
        pages = now.pages ∙ had.pages;
      };
}

pub columns_more : (W i : ℕ) (columns after : List (Vec PassHeld Global)) → AreColumns W i columns → (column : Vec PassHeld Global) × (after ≡ columns ++ column ∷ []) × IsColumn W column → AreColumns W (i + 1) after
columns_more W i columns after so (column, is, one) =
    let P : List (Vec PassHeld Global) → Type 0 = λ cs. AreColumns W (i + 1) cs in
    subst P (sym is) (record {
      many = length-append columns (column ∷ []) ∙ ap (λ (n : ℕ). n + 1) so.many;
      each = each_push (λ k c. IsColumn W c) columns column i so.many so.each one;
    })

-- one agent more keeps its entries
pub keep_more : {A : Type 0} (entries : A → List Entry) (before mid : List A) (i : ℕ) (x new : A) → i < length mid → entries new ≡ entries (get_or mid i x) → KeepEntries entries before mid
    → KeepEntries entries before (set mid i new)
keep_more entries before mid i x new within same kept r d = ⊎_elim
    (λ (e : r ≡ i). ap entries (get_or-set_at mid i r new d e within) ∙ same ∙ ap entries (get_any mid i x d within ∙ ap (λ (k : ℕ). get_or mid k d) (sym e)) ∙ kept r d)
    (λ (ne : r ≢ i). ap entries (get_or-set_other mid i r new d ne) ∙ kept r d)
    (same_or r i)
