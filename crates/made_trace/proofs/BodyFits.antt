-- The lines of packets fit behind the lines before them.
use Rattle.std.proofs.Common.{ℕ, zero, suc, ◌≡◌, ◌∙◌, ◌+◌, ◌-◌, ◌*◌, ◌/◌, ◌%◌, ◌^◌, ◌==◌, ◌≤◌, ◌<◌, List, [], ◌∷◌, ◌++◌, refl, sym, ap, subst, arith, length-append, lit≤, bit_xor, Bool, true, false, cond}
use Rattle.std.proofs.lemmas.Bool.Decides.{nat_tests}
use Rattle.packet_signature.specs.Signature.{signature_of}
use Rattle.packet_signature.specs.declared.Kind.TheVariants as kind
use Rattle.trace_format.specs.Before.{sigs_of}
use Rattle.trace_format.specs.Said.{Said}
use Rattle.trace_format.specs.Said as said
use Rattle.made_trace.specs.Draws.{hop_at, hops, is_changed, source}
use Rattle.made_trace.specs.declared.draws.Draw.{Draw}
use Rattle.made_trace.specs.Fitting.{AllFit, Fits, IsFresh, Stands}
use Rattle.made_trace.specs.Made.{asking, behind, body, changed, crossing, draw_at, forward_at, forwards, last_hop, last_packet, number_at, packet_lines, packet_of, plain, router_name, ticking, used}
use Rattle.made_trace.proofs.Behind.{all_fit_append, behind_append}
use Rattle.made_trace.proofs.HeadFits.{known_at, made_layout}
use Rattle.made_trace.proofs.LineFits.{archive_fits, change_fits, forward_fits, packet_fits, query_fits, rotate_fits, tick_fits, watch_fits}
use Rattle.made_trace.proofs.Numbers.{number_most, used_most}
use Rattle.made_trace.proofs.PacketFits.{packet_bytes, packet_long, packet_read}

-- ---- some lines

-- some lines fit behind others, and behind them stands so much, and nothing is archived
pub record Goes (before more : List Said) (packets records rotates ticks queries clock : ℕ) : Type 0 where
  pub fit : AllFit before more
  pub stands : Stands made_layout (behind before more) packets records rotates ticks queries clock
  pub fresh : IsFresh (behind before more)

goes_append : (before a b : List Said) (p r ro t q c : ℕ) → AllFit before a → Goes (behind before a) b p r ro t q c → Goes before (a ++ b) p r ro t q c
goes_append before a b p r ro t q c fit g =
    let e = sym (behind_append before a b) in
    record {
      fit = all_fit_append before a b fit g.fit;
      stands = subst (λ (z : List Said). Stands made_layout z p r ro t q c) e g.stands;
      fresh = subst IsFresh e g.fresh;
    }

goes_none : (before : List Said) (p r ro t q c : ℕ) → Stands made_layout before p r ro t q c → IsFresh before → Goes before [] p r ro t q c
goes_none before p r ro t q c s f = record { fit = tt; stands = s; fresh = f }

-- ---- one line more

after_packet : (before : List Said) (bytes : List ℕ) (p r ro t q c : ℕ) → Stands made_layout before p r ro t q c → Stands made_layout (said.Packet bytes ∷ before) (p + 1) r ro t q c
after_packet before bytes p r ro t q c s = record {
  version_is = s.version_is;
  stage_is = refl;
  layout_is = s.layout_is;
  packets_are = length-append (sigs_of before) (signature_of bytes ∷ []) ∙ ap (λ (k : ℕ). k + 1) s.packets_are;
  records_are = s.records_are;
  rotates_are = s.rotates_are;
  ticks_are = s.ticks_are;
  queries_are = s.queries_are;
  time_is = s.time_is;
}

after_forward : (before : List Said) (name : List ℕ) (packet p r ro t q c : ℕ) → Stands made_layout before p r ro t q c → Stands made_layout (said.Fwd name packet ∷ before) p (r + 1) ro t q c
after_forward before name packet p r ro t q c s = record {
  version_is = s.version_is;
  stage_is = refl;
  layout_is = s.layout_is;
  packets_are = s.packets_are;
  records_are = ap (λ (k : ℕ). k + 1) s.records_are;
  rotates_are = s.rotates_are;
  ticks_are = s.ticks_are;
  queries_are = s.queries_are;
  time_is = s.time_is;
}

after_change : (before : List Said) (name : List ℕ) (old new p r ro t q c : ℕ) → Stands made_layout before p r ro t q c → Stands made_layout (said.Xf name kind.Nat old new ∷ before) p (r + 1) ro t q c
after_change before name old new p r ro t q c s = record {
  version_is = s.version_is;
  stage_is = refl;
  layout_is = s.layout_is;
  packets_are = s.packets_are;
  records_are = ap (λ (k : ℕ). k + 1) s.records_are;
  rotates_are = s.rotates_are;
  ticks_are = s.ticks_are;
  queries_are = s.queries_are;
  time_is = s.time_is;
}

after_tick : (before : List Said) (time p r ro t q c : ℕ) → Stands made_layout before p r ro t q c → Stands made_layout (said.Tick time ∷ before) p r ro (t + 1) q time
after_tick before time p r ro t q c s = record {
  version_is = s.version_is;
  stage_is = refl;
  layout_is = s.layout_is;
  packets_are = s.packets_are;
  records_are = s.records_are;
  rotates_are = s.rotates_are;
  ticks_are = ap (λ (k : ℕ). k + 1) s.ticks_are;
  queries_are = s.queries_are;
  time_is = refl;
}

after_rotate : (before : List Said) (name : List ℕ) (p r ro t q c : ℕ) → Stands made_layout before p r ro t q c → Stands made_layout (said.Rotate name ∷ before) p r (ro + 1) t q c
after_rotate before name p r ro t q c s = record {
  version_is = s.version_is;
  stage_is = refl;
  layout_is = s.layout_is;
  packets_are = s.packets_are;
  records_are = s.records_are;
  rotates_are = ap (λ (k : ℕ). k + 1) s.rotates_are;
  ticks_are = s.ticks_are;
  queries_are = s.queries_are;
  time_is = s.time_is;
}

after_archive : (before : List Said) (name : List ℕ) (p r ro t q c : ℕ) → Stands made_layout before p r ro t q c → Stands made_layout (said.Archive name ∷ before) p r ro t q c
after_archive before name p r ro t q c s = record {
  version_is = s.version_is;
  stage_is = refl;
  layout_is = s.layout_is;
  packets_are = s.packets_are;
  records_are = s.records_are;
  rotates_are = s.rotates_are;
  ticks_are = s.ticks_are;
  queries_are = s.queries_are;
  time_is = s.time_is;
}

after_watch : (before : List Said) (name : List ℕ) (packet p r ro t q c : ℕ) → Stands made_layout before p r ro t q c → Stands made_layout (said.Watch name packet ∷ before) p r ro t q c
after_watch before name packet p r ro t q c s = record {
  version_is = s.version_is;
  stage_is = refl;
  layout_is = s.layout_is;
  packets_are = s.packets_are;
  records_are = s.records_are;
  rotates_are = s.rotates_are;
  ticks_are = s.ticks_are;
  queries_are = s.queries_are;
  time_is = s.time_is;
}

after_query : (before : List Said) (name : List ℕ) (packet time p r ro t q c : ℕ) → Stands made_layout before p r ro t q c → Stands made_layout (said.Query name packet time ∷ before) p r ro t (q + 1) c
after_query before name packet time p r ro t q c s = record {
  version_is = s.version_is;
  stage_is = refl;
  layout_is = s.layout_is;
  packets_are = s.packets_are;
  records_are = s.records_are;
  rotates_are = s.rotates_are;
  ticks_are = s.ticks_are;
  queries_are = ap (λ (k : ℕ). k + 1) s.queries_are;
  time_is = s.time_is;
}

-- ---- the hops

hop_small : (d : Draw) (j : ℕ) → hop_at d j < 12
hop_small d j = omega arith

pub hops_few : (d : Draw) → hops d ≤ 6
hops_few d = omega arith

pub hops_some : (d : Draw) → 3 ≤ hops d
hops_some d = omega arith

forward_fit : (before : List Said) (d : Draw) (packet j p r ro t q c : ℕ) → Stands made_layout before p r ro t q c → r < 1000000 → packet < p → packet < 65536 → Fits before (forward_at d packet j)
forward_fit before d packet j p r ro t q c s few there small =
    let known = known_at (hop_at d j) (hop_small d j) in
    forward_fits made_layout before p r ro t q c s (router_name (hop_at d j)) packet known.name_is known.declared few there small

forwards_go : (before : List Said) (d : Draw) (packet from count p r ro t q c : ℕ) → Stands made_layout before p r ro t q c → IsFresh before → r + count ≤ 1000000 → packet < p → packet < 65536
    → Goes before (forwards d packet from count) p (r + count) ro t q c
forwards_go before d packet from zero p r ro t q c s f few there small =
    let P : ℕ → Type 0 = λ n. Goes before [] p n ro t q c in
    let e : r ≡ r + 0 = omega arith in
    subst P e (goes_none before p r ro t q c s f)
forwards_go before d packet from (suc count) p r ro t q c s f few there small =
    let g = forwards_go before d packet from count p r ro t q c s f (omega (arith, few)) there small in
    let here = behind before (forwards d packet from count) in
    let one : Goes here (forward_at d packet (from + count) ∷ []) p (r + count + 1) ro t q c = record {
      fit = (forward_fit here d packet (from + count) p (r + count) ro t q c g.stands (omega (arith, few)) there small, tt);
      stands = after_forward here (router_name (hop_at d (from + count))) packet p (r + count) ro t q c g.stands;
      fresh = g.fresh;
    } in
    let P : ℕ → Type 0 = λ n. Goes before (forwards d packet from (suc count)) p n ro t q c in
    let e : r + count + 1 ≡ r + suc count = omega arith in
    subst P e (goes_append before (forwards d packet from count) (forward_at d packet (from + count) ∷ []) p (r + count + 1) ro t q c g.fit one)

-- ---- a crossing: at most six records

packet_fit : (before : List Said) (i from : ℕ) (d : Draw) (p r ro t q c : ℕ) → Stands made_layout before p r ro t q c → p < 65536 → Fits before (said.Packet (packet_of i from d))
packet_fit before i from d p r ro t q c s few = packet_fits made_layout before p r ro t q c s (packet_of i from d) few (packet_bytes i from d) (packet_long i from d) (packet_read i from d)

plain_goes : (before : List Said) (i : ℕ) (d : Draw) (p r ro t q c : ℕ) → Stands made_layout before p r ro t q c → IsFresh before → p < 65536 → r + 6 ≤ 1000000
    → Goes before (plain i p d) (p + 1) (r + hops d) ro t q c
plain_goes before i d p r ro t q c s f few room =
    let x = said.Packet (packet_of i (source d) d) in
    let most = hops_few d in
    let next = after_packet before (packet_of i (source d) d) p r ro t q c s in
    let g = forwards_go (x ∷ before) d p 0 (hops d) (p + 1) r ro t q c next f (omega (arith, room, most)) (omega arith) few in
    record { fit = (packet_fit before i (source d) d p r ro t q c s few, g.fit); stands = g.stands; fresh = g.fresh }

changed_goes : (before : List Said) (i : ℕ) (d : Draw) (p r ro t q c : ℕ) → Stands made_layout before p r ro t q c → IsFresh before → p + 1 < 65536 → r + 6 ≤ 1000000
    → Goes before (changed i p d) (p + 2) (r + hops d) ro t q c
changed_goes before i d p r ro t q c s f few room =
    let b1 = packet_of i (source d) d in
    let b2 = packet_of i (bit_xor (source d) 1) d in
    let x1 = said.Packet b1 in
    let x2 = said.Packet b2 in
    let x3 = forward_at d p 0 in
    let x4 = said.Xf (router_name (hop_at d 1)) kind.Nat p (p + 1) in
    let most = hops_few d in
    let least = hops_some d in
    let s1 = after_packet before b1 p r ro t q c s in
    let two : p + 1 + 1 ≡ p + 2 = omega arith in
    let s2 : Stands made_layout (x2 ∷ x1 ∷ before) (p + 2) r ro t q c = subst (λ (n : ℕ). Stands made_layout (x2 ∷ x1 ∷ before) n r ro t q c) two (after_packet (x1 ∷ before) b2 (p + 1) r ro t q c s1) in
    let s3 = after_forward (x2 ∷ x1 ∷ before) (router_name (hop_at d 0)) p (p + 2) r ro t q c s2 in
    let s4 = after_change (x3 ∷ x2 ∷ x1 ∷ before) (router_name (hop_at d 1)) p (p + 1) (p + 2) (r + 1) ro t q c s3 in
    let known = known_at (hop_at d 1) (hop_small d 1) in
    let g = forwards_go (x4 ∷ x3 ∷ x2 ∷ x1 ∷ before) d (p + 1) 2 (hops d - 2) (p + 2) (r + 1 + 1) ro t q c s4 f (omega (arith, room, most, least)) (omega arith) few in
    let P : ℕ → Type 0 = λ n. Stands made_layout (behind before (changed i p d)) (p + 2) n ro t q c in
    let count : r + 1 + 1 + (hops d - 2) ≡ r + hops d = omega (arith, least) in
    record {
      fit = (
        packet_fit before i (source d) d p r ro t q c s (omega (arith, few)),
        (
          packet_fit (x1 ∷ before) i (bit_xor (source d) 1) d (p + 1) r ro t q c s1 few,
          (
            forward_fit (x2 ∷ x1 ∷ before) d p 0 (p + 2) r ro t q c s2 (omega (arith, room)) (omega arith) (omega (arith, few)),
            (
              change_fits made_layout (x3 ∷ x2 ∷ x1 ∷ before) (p + 2) (r + 1) ro t q c s3 (router_name (hop_at d 1)) p (p + 1) known.name_is known.declared (omega (arith, room)) (omega arith) (omega arith) (omega (arith, few)) few,
              g.fit,
            ),
          ),
        ),
      );
      stands = subst P count g.stands;
      fresh = g.fresh;
    }

crossing_by : (before : List Said) (i : ℕ) (d : Draw) (p r ro t q c : ℕ) (is : Bool) → Stands made_layout before p r ro t q c → IsFresh before → p + 1 < 65536 → r + 6 ≤ 1000000
    → Goes before (cond is (changed i p d) (plain i p d)) (p + cond is 2 1) (r + hops d) ro t q c
crossing_by before i d p r ro t q c true s f few room = changed_goes before i d p r ro t q c s f few room
crossing_by before i d p r ro t q c false s f few room = plain_goes before i d p r ro t q c s f (omega (arith, few)) room

-- ---- behind a crossing: a tick, and a rotation, an archival, a watch and a query

asked : (before : List Said) (g l z time p r ro t q : ℕ) → Stands made_layout before p r ro t q time → IsFresh before → g < 12 → l < 12 → z < p → z < 65536 → time < 2 ^ 32 → ro < 4096 → q < 256
    → Goes before (said.Rotate (router_name g) ∷ said.Archive (router_name g) ∷ said.Watch (router_name l) z ∷ said.Query (router_name l) z time ∷ []) p r (ro + 1) t (q + 1) time
asked before g l z time p r ro t q s f small_g small_l there small early few_ro few_q =
    let kg = known_at g small_g in
    let kl = known_at l small_l in
    let x1 = said.Rotate (router_name g) in
    let x2 = said.Archive (router_name g) in
    let x3 = said.Watch (router_name l) z in
    let s1 = after_rotate before (router_name g) p r ro t q time s in
    let s2 = after_archive (x1 ∷ before) (router_name g) p r (ro + 1) t q time s1 in
    let s3 = after_watch (x2 ∷ x1 ∷ before) (router_name l) z p r (ro + 1) t q time s2 in
    record {
      fit = (
        rotate_fits made_layout before p r ro t q time s (router_name g) kg.name_is kg.declared few_ro,
        (
          archive_fits made_layout (x1 ∷ before) p r (ro + 1) t q time s1 (router_name g) kg.name_is kg.declared f,
          (
            watch_fits made_layout (x2 ∷ x1 ∷ before) p r (ro + 1) t q time s2 (router_name l) z kl.name_is kl.declared there small,
            (query_fits made_layout (x3 ∷ x2 ∷ x1 ∷ before) p r (ro + 1) t q time s3 (router_name l) z time kl.name_is kl.declared there small (omega arith) early few_q, tt),
          ),
        ),
      );
      stands = after_query (x3 ∷ x2 ∷ x1 ∷ before) (router_name l) z time p r (ro + 1) t q time s3;
      fresh = refl;
    }

-- the equation of a test
held_zero : (n : ℕ) → (n == 0) ≡ true → n ≡ 0
held_zero n e = grind (arith, nat_tests)

held_some : (n : ℕ) → (n == 0) ≡ false → 0 < n
held_some n e = grind (arith, nat_tests)

tick_by : (before : List Said) (i p r ro q : ℕ) (is : Bool) → ((i + 1) % 100 == 0) ≡ is → i < 32768 → Stands made_layout before p r ro (i / 100) q (i / 100 * 10) → IsFresh before
    → Goes before (cond is (said.Tick ((i + 1) / 10) ∷ []) []) p r ro ((i + 1) / 100) q ((i + 1) / 100 * 10)
tick_by before i p r ro q true e few s f =
    let z = held_zero ((i + 1) % 100) e in
    let time = (i + 1) / 10 in
    let count : i / 100 + 1 ≡ (i + 1) / 100 = omega (arith, z) in
    let now : time ≡ (i + 1) / 100 * 10 = omega (arith, z) in
    let later : i / 100 * 10 < time = omega (arith, z) in
    let after = after_tick before time p r ro (i / 100) q (i / 100 * 10) s in
    let one = subst (λ (n : ℕ). Stands made_layout (said.Tick time ∷ before) p r ro n q time) count after in
    record {
      fit = (tick_fits made_layout before p r ro (i / 100) q (i / 100 * 10) s time later (omega (arith, few)) (omega (arith, few)), tt);
      stands = subst (λ (n : ℕ). Stands made_layout (said.Tick time ∷ before) p r ro ((i + 1) / 100) q n) now one;
      fresh = refl;
    }
tick_by before i p r ro q false e few s f =
    let z = held_some ((i + 1) % 100) e in
    let count : i / 100 ≡ (i + 1) / 100 = omega (arith, z) in
    let P : ℕ → Type 0 = λ n. Goes before [] p r ro n q (n * 10) in
    subst P count (goes_none before p r ro (i / 100) q (i / 100 * 10) s f)

ask_by : (before : List Said) (i g l z p r : ℕ) (is : Bool) → ((i + 1) % 1000 == 0) ≡ is → i < 32768 → Stands made_layout before p r (i / 1000) ((i + 1) / 100) (i / 1000) ((i + 1) / 100 * 10) → IsFresh before
    → g < 12 → l < 12 → z < p → z < 65536
    → Goes before (cond is (said.Rotate (router_name g) ∷ said.Archive (router_name g) ∷ said.Watch (router_name l) z ∷ said.Query (router_name l) z ((i + 1) / 10) ∷ []) []) p r ((i + 1) / 1000) ((i + 1) / 100) ((i + 1) / 1000) ((i + 1) / 100 * 10)
ask_by before i g l z p r true e few s f small_g small_l there small =
    let n0 = held_zero ((i + 1) % 1000) e in
    let time = (i + 1) / 10 in
    let count : i / 1000 + 1 ≡ (i + 1) / 1000 = omega (arith, n0) in
    let now : (i + 1) / 100 * 10 ≡ time = omega (arith, n0) in
    let lines = said.Rotate (router_name g) ∷ said.Archive (router_name g) ∷ said.Watch (router_name l) z ∷ said.Query (router_name l) z time ∷ [] in
    let s1 = subst (λ (n : ℕ). Stands made_layout before p r (i / 1000) ((i + 1) / 100) (i / 1000) n) now s in
    let all = asked before g l z time p r (i / 1000) ((i + 1) / 100) (i / 1000) s1 f small_g small_l there small (omega (arith, few)) (omega (arith, few)) (omega (arith, few)) in
    let one = subst (λ (n : ℕ). Goes before lines p r n ((i + 1) / 100) n time) count all in
    subst (λ (n : ℕ). Goes before lines p r ((i + 1) / 1000) ((i + 1) / 100) ((i + 1) / 1000) n) (sym now) one
ask_by before i g l z p r false e few s f small_g small_l there small =
    let n0 = held_some ((i + 1) % 1000) e in
    let count : i / 1000 ≡ (i + 1) / 1000 = omega (arith, n0) in
    subst (λ (n : ℕ). Goes before [] p r n ((i + 1) / 100) n ((i + 1) / 100 * 10)) count (goes_none before p r (i / 1000) ((i + 1) / 100) (i / 1000) ((i + 1) / 100 * 10) s f)

-- ---- all lines of a packet

last_by : (m : ℕ) (is : Bool) → cond is (m + 1) m < m + cond is 2 1
last_by m true = omega arith
last_by m false = omega arith

packet_goes : (before : List Said) (i : ℕ) (d : Draw) (p r : ℕ) → i < 32768 → p ≤ 2 * i → r ≤ 6 * i → Stands made_layout before p r (i / 1000) (i / 100) (i / 1000) (i / 100 * 10) → IsFresh before
    → Goes before (packet_lines i p d) (p + used d) (r + hops d) ((i + 1) / 1000) ((i + 1) / 100) ((i + 1) / 1000) ((i + 1) / 100 * 10)
packet_goes before i d p r few low room s f =
    let most = used_most d in
    let cross = crossing_by before i d p r (i / 1000) (i / 100) (i / 1000) (i / 100 * 10) (is_changed d) s f (omega (arith, few, low)) (omega (arith, few, room)) in
    let b1 = behind before (crossing i p d) in
    let p1 = p + used d in
    let r1 = r + hops d in
    let tick = tick_by b1 i p1 r1 (i / 1000) (i / 1000) ((i + 1) % 100 == 0) refl few cross.stands cross.fresh in
    let b2 = behind b1 (ticking i) in
    let last = last_by p (is_changed d) in
    let ask = ask_by b2 i ((i + 1) / 1000 % 12) (last_hop d) (last_packet p d) p1 r1 ((i + 1) % 1000 == 0) refl few tick.stands tick.fresh (omega arith) (hop_small d (hops d - 1)) last (omega (arith, few, low, most, last)) in
    let both = goes_append b1 (ticking i) (asking i p d) p1 r1 ((i + 1) / 1000) ((i + 1) / 100) ((i + 1) / 1000) ((i + 1) / 100 * 10) tick.fit ask in
    goes_append before (crossing i p d) (ticking i ++ asking i p d) p1 r1 ((i + 1) / 1000) ((i + 1) / 100) ((i + 1) / 1000) ((i + 1) / 100 * 10) cross.fit both

-- ---- all packets

abbrev pub records_at : (seed i : ℕ) → ℕ
records_at seed zero = 0
records_at seed (suc i) = records_at seed i + hops (draw_at seed i)

records_most : (seed i : ℕ) → records_at seed i ≤ 6 * i
records_most seed zero = lit≤ tt
records_most seed (suc i) = let h = records_most seed i in let m = hops_few (draw_at seed i) in omega (arith, h, m)

pub body_goes : (base : List Said) (seed i : ℕ) → i ≤ 32768 → Stands made_layout base 0 0 0 0 0 0 → IsFresh base
    → Goes base (body seed i) (number_at seed i) (records_at seed i) (i / 1000) (i / 100) (i / 1000) (i / 100 * 10)
body_goes base seed zero few s f = goes_none base 0 0 0 0 0 0 s f
body_goes base seed (suc i) few s f =
    let g = body_goes base seed i (omega (arith, few)) s f in
    let d = draw_at seed i in
    let p = number_at seed i in
    let r = records_at seed i in
    let here = behind base (body seed i) in
    let one = packet_goes here i d p r (omega (arith, few)) (number_most seed i) (records_most seed i) g.stands g.fresh in
    let all = goes_append base (body seed i) (packet_lines i p d) (p + used d) (r + hops d) ((i + 1) / 1000) ((i + 1) / 100) ((i + 1) / 1000) ((i + 1) / 100 * 10) g.fit one in
    let next : i + 1 ≡ suc i = omega arith in
    let P : ℕ → Type 0 = λ n. Goes base (body seed (suc i)) (p + used d) (r + hops d) (n / 1000) (n / 100) (n / 1000) (n / 100 * 10) in
    subst P next all
