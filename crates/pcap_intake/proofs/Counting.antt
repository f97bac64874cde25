-- One record more.
use Rattle.std.proofs.Common.{ℕ, ◌≡◌, ◌+◌, ◌≤◌, List, [], ◌∷◌, length, refl, ap, arith, sym, ◌∙◌, Bool, true, false, cond, not, is_some, subst, Some, None}
use Rattle.std.specs.declared.option.Option.{Option}
use Rattle.pcap_intake.proofs.Heads.{few_records, next_of}
use Rattle.pcap_intake.specs.Capture.{Captured, Begins, IsFirst, second_of}
use Rattle.pcap_intake.specs.Frames.{is_other, is_refused, is_good, is_read, is_held_and, packet_in}
use Rattle.pcap_intake.specs.Intake.{goods, count_of, packet_from}
use Rattle.pcap_intake.specs.Steps.{AreTaken, AreAdded, IsReached, CanRise, Page}
use Rattle.pcap_intake.specs.Text.{Packet}
use Rattle.pcap_intake.specs.declared.counts.Counts.{Counts}
use Rattle.pcap_intake.specs.declared.kind.CaptureKind.{CaptureKind}

count_by : (b : Bool) (n most : ℕ) → n ≤ most → cond b (n + 1) n ≤ most + 1
count_by true n most le = omega arith
count_by false n most le = omega arith

-- no more records pass a test than there are
pub few_counted : (test : List ℕ → Bool) (records : List Captured) → count_of test records ≤ length records
few_counted test [] = omega arith
few_counted test (r ∷ before) = let h = count_by (test r.frame) (count_of test before) (length before) (few_counted test before) in omega (arith, h)

goods_by : (b : Bool) (p : Packet) (ps : List Packet) (most : ℕ) → length ps ≤ most → length (cond b (p ∷ ps) ps) ≤ most + 1
goods_by true p ps most le = omega arith
goods_by false p ps most le = omega arith

pub few_goods : (kind : CaptureKind) (records : List Captured) → length (goods kind records) ≤ length records
few_goods kind [] = omega arith
few_goods kind (r ∷ before) = let h = goods_by (is_good kind.link r.frame) (packet_from kind r) (goods kind before) (length before) (few_goods kind before) in omega (arith, h)

not_true : (b : Bool) → not b ≡ true → b ≡ false
not_true true e = absurd (cc)
not_true false e = refl

-- a frame is one of the three
other_alone : (held : Option (List ℕ)) → not (is_some held) ≡ true → (is_held_and (λ p. not (is_read p)) held ≡ false) × (is_held_and is_read held ≡ false)
other_alone None e = (refl, refl)
other_alone (Some p) e = absurd (cc)

refused_alone : (held : Option (List ℕ)) → is_held_and (λ p. not (is_read p)) held ≡ true → (not (is_some held) ≡ false) × (is_held_and is_read held ≡ false)
refused_alone None e = absurd (cc)
refused_alone (Some p) e = (refl, not_true (is_read p) e)

good_alone : (held : Option (List ℕ)) → is_held_and is_read held ≡ true → (not (is_some held) ≡ false) × (is_held_and (λ p. not (is_read p)) held ≡ false)
good_alone None e = absurd (cc)
good_alone (Some p) e = (refl, ap not e)

pub other_more : (kind : CaptureKind) (name : List ℕ) (first skip : ℕ) (records : List Captured) (r : Captured) (page : Page) (counts new : Counts) → AreAdded kind name first skip records page counts
    → is_other kind.link r.frame ≡ true → new ≡ record counts { other = counts.other + 1 } → AreAdded kind name first skip (r ∷ records) page new
other_more kind name first skip records r page counts new a is e =
    let alone = other_alone (packet_in kind.link r.frame) is in
    rw e (record {
      good = rw alone.1 (record { lines = a.good.lines; taken_is = a.good.taken_is; skipped_is = a.good.skipped_is; left_is = a.good.left_is });
      other_is = rw is (ap (λ n. n + 1) a.other_is);
      refused_is = rw alone.0 a.refused_is;
      whole = a.whole;
    })

pub refused_more : (kind : CaptureKind) (name : List ℕ) (first skip : ℕ) (records : List Captured) (r : Captured) (page : Page) (counts new : Counts) → AreAdded kind name first skip records page counts
    → is_refused kind.link r.frame ≡ true → new ≡ record counts { refused = counts.refused + 1 } → AreAdded kind name first skip (r ∷ records) page new
refused_more kind name first skip records r page counts new a is e =
    let alone = refused_alone (packet_in kind.link r.frame) is in
    rw e (record {
      good = rw alone.1 (record { lines = a.good.lines; taken_is = a.good.taken_is; skipped_is = a.good.skipped_is; left_is = a.good.left_is });
      other_is = rw alone.0 a.other_is;
      refused_is = rw is (ap (λ n. n + 1) a.refused_is);
      whole = a.whole;
    })

pub good_more : (kind : CaptureKind) (name : List ℕ) (first skip : ℕ) (records : List Captured) (r : Captured) (p : Packet) (page new_page : Page) (counts new : Counts) → AreAdded kind name first skip records page counts
    → is_good kind.link r.frame ≡ true → p ≡ packet_from kind r
    → (AreTaken name first skip (goods kind records) page counts → AreTaken name first skip (p ∷ goods kind records) new_page new)
    → new.other ≡ counts.other → new.refused ≡ counts.refused → new.cut ≡ counts.cut → AreAdded kind name first skip (r ∷ records) new_page new
good_more kind name first skip records r p page new_page counts new a is same more o f w =
    let alone = good_alone (packet_in kind.link r.frame) is in
    record {
      good = rw (is, ← same) (more a.good);
      other_is = rw alone.0 (o ∙ a.other_is);
      refused_is = rw alone.1 (f ∙ a.refused_is);
      whole = w ∙ a.whole;
    }

-- ---- all records

pub at_start : (kind : CaptureKind) (name : List ℕ) (first skip : ℕ) (bytes rest : List ℕ) (page : Page) → rest ≡ bytes → page ≡ record { text = []; base = None; clock = record { time = 0; ticks = 0 } }
    → IsReached kind name first skip bytes rest page (record { taken = 0; skipped = 0; left = 0; other = 0; refused = 0; cut = false })
at_start kind name first skip bytes rest page e p = record {
  records = [];
  begins = sym e;
  added = record {
    good = record {
      lines = record { text = ap (λ q. q.text) p; base = ap (λ q. q.base) p; clock = ap (λ q. q.clock) p };
      taken_is = omega arith;
      skipped_is = omega arith;
      left_is = omega arith;
    };
    other_is = refl;
    refused_is = refl;
    whole = refl;
  };
}

pub can_rise : (kind : CaptureKind) (name : List ℕ) (first skip : ℕ) (bytes rest : List ℕ) (page : Page) (counts : Counts) → IsReached kind name first skip bytes rest page counts
    → length bytes ≤ 67108864 → CanRise counts
can_rise kind name first skip bytes rest page counts h fits =
    let few = few_records kind.order bytes h.records rest h.begins in
    let other = few_counted (is_other kind.link) h.records in
    let refused = few_counted (is_refused kind.link) h.records in
    let good = few_goods kind h.records in
    let o = h.added.other_is in
    let r = h.added.refused_is in
    let l = h.added.good.left_is in
    record { other = omega (arith, few, other, o); refused = omega (arith, few, refused, r); left = omega (arith, few, good, l) }

pub reached_more : (kind : CaptureKind) (name : List ℕ) (first skip : ℕ) (bytes rest frame after : List ℕ) (second microsecond : ℕ) (page new_page : Page) (counts new : Counts) → IsReached kind name first skip bytes rest page counts
    → IsFirst kind rest second microsecond frame after
    → ((records : List Captured) (head : List ℕ) → second ≡ second_of kind.order head → AreAdded kind name first skip records page counts → AreAdded kind name first skip (record { head = head; frame = frame } ∷ records) new_page new)
    → IsReached kind name first skip bytes after new_page new
reached_more kind name first skip bytes rest frame after second microsecond page new_page counts new h is more =
    let n = next_of kind rest second microsecond frame after is in
    let P : List ℕ → Type 0 = λ r. Begins kind.order bytes h.records r in
    record {
      records = record { head = n.head; frame = frame } ∷ h.records;
      begins = (n.is_record, subst P n.split h.begins);
      added = more h.records n.head n.time h.added;
    }
