-- One router more whose passes were taken in.
use Rattle.std.proofs.Common.{ℕ, zero, suc, ◌≡◌, ◌≢◌, ◌≤◌, ◌<◌, ◌+◌, ◌-◌, ◌∷◌, [], ◌++◌, ◌∙◌, ⊎_elim, List, length, get_or, set, take, sym, ap, refl, subst, arith, length-set, length-append, length-take-le}
use Rattle.std.specs.Prelude.{Vec}
use Rattle.std.specs.declared.alloc.Global.{Global}
use Rattle.std.proofs.lemmas.Grind.{get_or-set_at}
use Rattle.std.proofs.lemmas.List.{get_or-map, get_or-set_other, length-map, take_all, take_more}
use Rattle.page_gate.specs.Held.{Home, PassHeld, PlaneId}
use Rattle.data_agent.specs.declared.Agent.{Agent}
use Rattle.trace_workers.specs.declared.Job.{Job}
use Rattle.trace_workers.specs.Columns.{HaveGiven}
use Rattle.trace_replay.specs.Dealt.{AreColumns, HaveTaken, IsColumn, IsGatherer, MayGather, MayGatherAll, column_of}
use Rattle.data_agent.specs.Beside.{StandsBeside}
use Rattle.trace_replay.proofs.Beside.{get_any}
use Rattle.trace_replay.proofs.Sums.{same_or, some_of, get_push_same, get_push_other}

-- ---- lists and their last items

take_front : {X : Type 0} (xs : List X) (x : X) → take (length xs) (xs ++ x ∷ []) ≡ xs
take_front [] x = refl
take_front (y ∷ xs) x = ap (λ ys. y ∷ ys) (take_front xs x)

-- a list by its last item
pub last_split : {X : Type 0} (xs : List X) (m : ℕ) (d : X) → length xs ≡ m + 1 → xs ≡ take m xs ++ get_or xs m d ∷ []
last_split xs m d e = sym (take_all (m + 1) xs (omega (arith, e))) ∙ take_more xs m d (omega (arith, e))

-- which has one front and one last item
pub same_last : {X : Type 0} (xs ys : List X) (x y : X) → xs ++ x ∷ [] ≡ ys ++ y ∷ [] → (xs ≡ ys) × (x ≡ y)
same_last xs ys x y e =
    let a = length-append xs (x ∷ []) in
    let b = length-append ys (y ∷ []) in
    let n = ap length e in
    let same : length xs ≡ length ys = omega (arith, a, b, n) in (
      sym (take_front xs x) ∙ ap (λ (k : ℕ). take k (xs ++ x ∷ [])) same ∙ ap (λ zs. take (length ys) zs) e ∙ take_front ys y,
      sym (get_push_same xs x x (length xs) refl) ∙ ap (λ (k : ℕ). get_or (xs ++ x ∷ []) k x) same ∙ ap (λ zs. get_or zs (length ys) x) e ∙ get_push_same ys y x (length ys) refl,
    )

take_take : {X : Type 0} (xs : List X) (m n : ℕ) → m ≤ n → take m (take n xs) ≡ take m xs
take_take xs zero n l = refl
take_take [] (suc m) zero l = refl
take_take [] (suc m) (suc n) l = refl
take_take (x ∷ xs) (suc m) zero l = absurd (omega (arith, l))
take_take (x ∷ xs) (suc m) (suc n) l = ap (λ ys. x ∷ ys) (take_take xs m n (omega (arith, l)))

-- lists with the same items
pub same_items : {X : Type 0} (xs ys : List X) → length xs ≡ length ys → ((k : ℕ) (d : X) → k < length xs → get_or xs k d ≡ get_or ys k d) → xs ≡ ys
same_items [] [] e same = refl
same_items [] (y ∷ ys) e same = absurd (omega (arith, e))
same_items (x ∷ xs) [] e same = absurd (omega (arith, e))
same_items {X = X} (x ∷ xs) (y ∷ ys) e same =
    ap (λ (z : X). z ∷ xs) (same 0 x (omega arith)) ∙ ap (λ (zs : List X). y ∷ zs) (same_items xs ys (omega (arith, e)) (λ k d l. same (suc k) d (omega (arith, l))))

-- ---- one router more

module _ (planes : List PlaneId) (n m done : ℕ) (jobs left : List Job) (before mid : List Agent) (ready : MayGatherAll planes before jobs) (count : length planes ≡ length before)
    (so : HaveTaken n done jobs left before mid) (n_is : n ≡ length planes) (m_is : n ≡ m + 1 + done) where
  this_in : m < length before
  this_in = omega (arith, count, n_is, m_is)

  agent_same : (a d : Agent) → get_or mid m a ≡ get_or before m d
  agent_same a d = let s = so.same in get_any mid m a d (omega (arith, this_in, s)) ∙ so.rest m d (omega (arith, m_is))

  job_passes : (w : ℕ) (d : Job) → w < length jobs → (get_or left w d).passes.items ≡ take (m + 1) (get_or jobs w d).passes.items
  job_passes w d l = let e : n - done ≡ m + 1 = omega (arith, m_is) in (so.passes w d l).passes_are ∙ ap (λ (k : ℕ). take k (get_or jobs w d).passes.items) e

  passes_long : (w : ℕ) (d : Job) → w < length jobs → length (get_or jobs w d).passes.items ≡ n
  passes_long w d l =
      sym (length-map (get_or jobs w d).passes.items (λ (p : PassHeld). p.table)) ∙ ap length (ready.tables w d l) ∙ length-map planes (λ (p : PlaneId). p.table) ∙ sym n_is

  front_long : (w : ℕ) (d : Job) → w < length jobs → length (take (m + 1) (get_or jobs w d).passes.items) ≡ m + 1
  front_long w d l = let e = passes_long w d l in length-take-le (m + 1) (get_or jobs w d).passes.items (omega (arith, e, m_is))

  -- a job's last pass is that of this router
  last_is : (w : ℕ) (d : Job) (front : List PassHeld) (p : PassHeld) → w < length jobs → (get_or left w d).passes.items ≡ front ++ p ∷ []
      → (front ≡ take m (get_or jobs w d).passes.items) × (p ≡ get_or (get_or jobs w d).passes.items m p)
  last_is w d front p l e =
      let P = (get_or jobs w d).passes.items in
      let long = passes_long w d l in
      same_last front (take m P) p (get_or P m p) (sym e ∙ job_passes w d l ∙ take_more P m p (omega (arith, long, m_is)))

  table_at : (w : ℕ) (d : Job) (p : PassHeld) (q : PlaneId) → w < length jobs → (get_or (get_or jobs w d).passes.items m p).table ≡ (get_or planes m q).table
  table_at w d p q l =
      let P = (get_or jobs w d).passes.items in
      let long = passes_long w d l in
      sym (get_or-map (λ (x : PassHeld). x.table) P m p p.table (omega (arith, long, m_is)))
      ∙ ap (λ (ts : List Home). get_or ts m p.table) (ready.tables w d l)
      ∙ get_or-map (λ (x : PlaneId). x.table) planes m q p.table (omega (arith, n_is, m_is))

  pub may_gather : (a : Agent) (q : PlaneId) → MayGather (get_or planes m q) (get_or mid m a) left
  may_gather a q =
      let at = ready.each m a this_in in
      let P : Agent → Type 0 = λ x. StandsBeside x at.0 at.1 at.2 at.3 in (
        at.0,
        at.1,
        at.2,
        at.3,
        subst P (sym (agent_same a a)) at.4,
        so.many ∙ at.5,
        record {
          some = record {
            each = λ w d l.
                let lw : w < length jobs = (let e = so.many in omega (arith, l, e)) in
                let ok = (get_or left w d).passes.ok.0 in
                let long = ap length (job_passes w d lw) ∙ front_long w d lw in omega (arith, ok, long);
          };
          last = λ w d front p l e.
              let lw : w < length jobs = (let e2 = so.many in omega (arith, l, e2)) in
              let is = (last_is w d front p lw e).1 in
              let F : PassHeld → Type 0 = λ x. at.3.since ≤ x.floor in
              (ap (λ (x : PassHeld). x.table) is ∙ table_at w d p q lw, subst F (sym is) (at.6 w d p lw));
        },
      )

  pub column_there : (columns : List (Vec PassHeld Global)) → AreColumns (length jobs) (n - done) columns → (front : List (Vec PassHeld Global)) × (column : Vec PassHeld Global) × (columns ≡ front ++ column ∷ []) × IsColumn (length left) column
  column_there columns are =
      let e : n - done ≡ m + 1 = omega (arith, m_is) in
      let many = are.many in
      let d = some_of columns m (omega (arith, many, e)) in
      let P : ℕ → Type 0 = λ k. IsColumn k (get_or columns m d) in
      (take m columns, get_or columns m d, last_split columns m d (many ∙ e), subst P (sym so.many) (are.each m d (omega (arith, e))))

  pub columns_left : (columns after : List (Vec PassHeld Global)) → AreColumns (length jobs) (n - done) columns → (column : Vec PassHeld Global) × (columns ≡ after ++ column ∷ []) → AreColumns (length jobs) (n - (done + 1)) after
  columns_left columns after are (column, is) =
      let many = are.many in
      let a = ap length is ∙ length-append after (column ∷ []) in
      record {
        many = omega (arith, many, a, m_is);
        each = λ r d l.
            let P : Vec PassHeld Global → Type 0 = λ v. IsColumn (length jobs) v in
            subst P (ap (λ cs. get_or cs r d) is ∙ get_push_other after column d r (omega (arith, many, a, l, m_is))) (are.each r d (omega (arith, l)));
      }

  module _ (x new : Agent) (after : List Job) (column : List PassHeld) (given : HaveGiven left after column) (gathered : IsGatherer (get_or mid m x) new column) where
    column_is : (p : PassHeld) → column ≡ column_of p jobs m
    column_is p = same_items column (column_of p jobs m) (given.taken ∙ so.many ∙ sym (length-map jobs (λ (job : Job). get_or job.passes.items m p)))
        (λ k d l.
        let a = given.taken in let b = so.many in
        let lk : k < length left = omega (arith, l, a) in
        let lw : k < length jobs = omega (arith, l, a, b) in
        let j = some_of jobs k lw in
        let is = (last_is k j (get_or after k j).passes.items (get_or column k d) lw (given.each k j d lk).passes).1 in
        let long = passes_long k j lw in
        is ∙ get_any (get_or jobs k j).passes.items m (get_or column k d) p (omega (arith, long, m_is))
        ∙ sym (get_or-map (λ (job : Job). get_or job.passes.items m p) jobs k j d lw))

    pub taken_more : HaveTaken n (done + 1) jobs after before (set mid m new)
    taken_more = record {
      same = length-set mid m new ∙ so.same;
      many = given.many ∙ so.many;
      rest = λ r a l. get_or-set_other mid m r new a (let ne : r ≢ m = omega (arith, l, m_is) in ne) ∙ so.rest r a (omega (arith, l));
      each = λ r a p l h. ⊎_elim
          (λ (e : r ≡ m).
          let s = so.same in
          let in_mid : m < length mid = omega (arith, this_in, s) in
          let P : Agent → Type 0 = λ y. IsGatherer y (get_or (set mid m new) r a) (column_of p jobs r) in
          let Q : Agent → Type 0 = λ y. IsGatherer (get_or mid m x) y (column_of p jobs r) in
          let C : List PassHeld → Type 0 = λ c. IsGatherer (get_or mid m x) new c in
          subst P (agent_same x a ∙ ap (λ (k : ℕ). get_or before k a) (sym e)) (subst Q (sym (get_or-set_at mid m r new a e in_mid)) (subst C (column_is p ∙ ap (λ (k : ℕ). column_of p jobs k) (sym e)) gathered)))
          (λ (ne : r ≢ m).
          let P : Agent → Type 0 = λ y. IsGatherer (get_or before r a) y (column_of p jobs r) in
          subst P (sym (get_or-set_other mid m r new a ne)) (so.each r a p (omega (arith, l, ne, m_is)) h))
          (same_or r m);
      passes = λ w d l.
          let had = so.passes w d l in
          let b = so.many in
          let lw : w < length left = omega (arith, l, b) in
          let e = n - (done + 1) in
          let col = given.taken in
          let p = some_of column w (omega (arith, lw, col)) in
          let now = given.each w d p lw in
          let front = (last_is w d (get_or after w d).passes.items (get_or column w p) l now.passes).0 in
          let k : m ≡ n - (done + 1) = omega (arith, m_is) in
          record {
            passes_are = front ∙ ap (λ (i : ℕ). take i (get_or jobs w d).passes.items) k;
            room = now.room ∙ had.room;
            places = now.places ∙ had.places;
            pages = now.pages ∙ had.pages;
          };
    }
