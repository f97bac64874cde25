-- The fields in front of a record, read and read again.
use Rattle.std.proofs.Common.{◌≡◌, ℕ, ◌^◌, ◌<◌, ◌≤◌, List, [], ◌∷◌, ◌++◌, Result, Ok, refl, sym, ap, subst, ◌∙◌, arith}
use Rattle.std.specs.Int.{w32, w64, to_be_bytes}
use Rattle.byteorder.specs.Endian.{big_bytes}
use Rattle.spie_base.specs.declared.types.RouterId.{RouterId}
use Rattle.spie_base.specs.declared.types.PageNo.{PageNo}
use Rattle.spie_base.specs.declared.types.TheConstants.{N_MOST}
use Rattle.archive_record.specs.Reading.{◌>>=◌, number_in, name_at, shape_at, times_at}
use Rattle.archive_record.proofs.FieldFacts.{IsBytes, bind_ok, ok_is, Takes, Takes-then, wide1, wide2, wide4, wide8, number_takes, number_again}

-- a number of one byte is its byte
pub one_byte : (x : ℕ) → x < 256 → big_bytes 1 x ≡ x ∷ []
one_byte x lt = ap (λ (y : ℕ). y ∷ []) (omega (arith, lt))

-- ---- router and page

abbrev pub Name : Type 0
Name = (RouterId × PageNo) × List ℕ

abbrev pub name_made : (router page : ℕ × List ℕ) → Name
name_made router page = ((record { number = router.0 }, record { number = page.0 }), page.1)

pub record TakesName (bytes : List ℕ) (x : (RouterId × PageNo) × List ℕ) : Type 0 where
  pub takes : Takes bytes (to_be_bytes w32 x.0.0.number ++ to_be_bytes w32 x.0.1.number) x.1
  pub router : x.0.0.number < 64
  pub page : x.0.1.number < 2 ^ 32

pub name_takes : (bytes : List ℕ) (x : (RouterId × PageNo) × List ℕ) → IsBytes bytes → name_at bytes ≡ Ok x → TakesName bytes x
unfolding name_at
name_takes bytes x fits e =
    let a = bind_ok (number_in 4 0 63 bytes) (λ router. number_in 4 0 0xffffffff router.1 >>= λ page. Ok (name_made router page)) x e in
    let b = bind_ok (number_in 4 0 0xffffffff a.0.1) (λ page. Ok (name_made a.0 page)) x a.2 in
    let t0 = number_takes 4 0 63 wide4 bytes a.0 fits a.1 in
    let t1 = number_takes 4 0 0xffffffff wide4 a.0.1 b.0 t0.takes.rest_fits b.1 in
    subst (λ (y : Name). TakesName bytes y) (ok_is (name_made a.0 b.0) x b.2)
    (record { takes = Takes-then bytes (big_bytes 4 a.0.0) a.0.1 (big_bytes 4 b.0.0) b.0.1 t0.takes t1.takes; router = omega (arith, t0.below); page = omega (arith, t1.below) })

pub name_again : (router : RouterId) (page : PageNo) (rest : List ℕ) → router.number < 64 → page.number < 2 ^ 32
    → name_at (to_be_bytes w32 router.number ++ (to_be_bytes w32 page.number ++ rest)) ≡ Ok ((router, page), rest)
unfolding name_at
name_again router page rest small fits =
    rw (number_again 4 0 63 router.number (to_be_bytes w32 page.number ++ rest) (omega arith) (omega (arith, small)) (omega (arith, small)), number_again 4 0 0xffffffff page.number rest (omega arith) (omega (arith, fits)) (omega (arith, fits))) refl

-- ---- k and n

abbrev pub Shape : Type 0
Shape = (ℕ × ℕ) × List ℕ

abbrev pub shape_made : (k n none : ℕ × List ℕ) → Shape
shape_made k n none = ((k.0, n.0), none.1)

pub record TakesShape (least most_n : ℕ) (bytes : List ℕ) (x : (ℕ × ℕ) × List ℕ) : Type 0 where
  pub takes : Takes bytes (x.0.0 ∷ x.0.1 ∷ 0 ∷ 0 ∷ []) x.1
  pub some : 1 ≤ x.0.0
  pub most : x.0.0 ≤ 8
  pub low : least ≤ x.0.1
  pub high : x.0.1 ≤ most_n

-- the most that a magic allows is a byte
pub shape_takes : (least most_n : ℕ) → most_n ≤ N_MOST → (bytes : List ℕ) (x : (ℕ × ℕ) × List ℕ) → IsBytes bytes → shape_at least most_n bytes ≡ Ok x → TakesShape least most_n bytes x
unfolding shape_at
shape_takes least most_n short bytes x fits e =
    let a = bind_ok (number_in 1 1 8 bytes) (λ k. number_in 1 least most_n k.1 >>= λ n. number_in 2 0 0 n.1 >>= λ none. Ok (shape_made k n none)) x e in
    let b = bind_ok (number_in 1 least most_n a.0.1) (λ n. number_in 2 0 0 n.1 >>= λ none. Ok (shape_made a.0 n none)) x a.2 in
    let c = bind_ok (number_in 2 0 0 b.0.1) (λ none. Ok (shape_made a.0 b.0 none)) x b.2 in
    let t0 = number_takes 1 1 8 wide1 bytes a.0 fits a.1 in
    let t1 = number_takes 1 least most_n wide1 a.0.1 b.0 t0.takes.rest_fits b.1 in
    let t2 = number_takes 2 0 0 wide2 b.0.1 c.0 t1.takes.rest_fits c.1 in
    let nothing : c.0.0 ≡ 0 = omega (arith, t2.below) in
    let k-text : Takes bytes (a.0.0 ∷ []) a.0.1 = subst (λ (t : List ℕ). Takes bytes t a.0.1) (one_byte a.0.0 (omega (arith, t0.below))) t0.takes in
    let n-text : Takes a.0.1 (b.0.0 ∷ []) b.0.1 = subst (λ (t : List ℕ). Takes a.0.1 t b.0.1) (one_byte b.0.0 (omega (arith, t1.below, short))) t1.takes in
    let zeros : Takes b.0.1 (0 ∷ 0 ∷ []) c.0.1 = subst (λ (z : ℕ). Takes b.0.1 (big_bytes 2 z) c.0.1) nothing t2.takes in
    subst (λ (y : Shape). TakesShape least most_n bytes y) (ok_is (shape_made a.0 b.0 c.0) x c.2)
    (record { takes = Takes-then bytes (a.0.0 ∷ []) a.0.1 (b.0.0 ∷ 0 ∷ 0 ∷ []) c.0.1 k-text (Takes-then a.0.1 (b.0.0 ∷ []) b.0.1 (0 ∷ 0 ∷ []) c.0.1 n-text zeros); some = t0.above; most = t0.below; low = t1.above; high = t1.below })

pub shape_again : (least most_n : ℕ) → most_n ≤ N_MOST → (k n : ℕ) (rest : List ℕ) → 1 ≤ k → k ≤ 8 → least ≤ n → n ≤ most_n → shape_at least most_n (k ∷ n ∷ 0 ∷ 0 ∷ rest) ≡ Ok ((k, n), rest)
unfolding shape_at
shape_again least most_n short k n rest some most low high =
    let k-read : number_in 1 1 8 (k ∷ n ∷ 0 ∷ 0 ∷ rest) ≡ Ok (k, n ∷ 0 ∷ 0 ∷ rest) = ap (λ (t : List ℕ). number_in 1 1 8 (t ++ n ∷ 0 ∷ 0 ∷ rest)) (sym (one_byte k (omega (arith, most)))) ∙ number_again 1 1 8 k (n ∷ 0 ∷ 0 ∷ rest) some most (omega (arith, most)) in
    let n-read : number_in 1 least most_n (n ∷ 0 ∷ 0 ∷ rest) ≡ Ok (n, 0 ∷ 0 ∷ rest) = ap (λ (t : List ℕ). number_in 1 least most_n (t ++ 0 ∷ 0 ∷ rest)) (sym (one_byte n (omega (arith, high, short)))) ∙ number_again 1 least most_n n (0 ∷ 0 ∷ rest) low high (omega (arith, high, short)) in
    let none-read : number_in 2 0 0 (0 ∷ 0 ∷ rest) ≡ Ok (0, rest) = number_again 2 0 0 0 rest (omega arith) (omega arith) (omega arith) in
    ap (λ (r : Result (ℕ × List ℕ) ℕ). r >>= λ k. number_in 1 least most_n k.1 >>= λ n. number_in 2 0 0 n.1 >>= λ none. Ok (shape_made k n none)) k-read
    ∙ ap (λ (r : Result (ℕ × List ℕ) ℕ). r >>= λ n. number_in 2 0 0 n.1 >>= λ none. Ok ((k, n.0), none.1)) n-read
    ∙ ap (λ (r : Result (ℕ × List ℕ) ℕ). r >>= λ none. Ok ((k, n), none.1)) none-read

-- ---- seed and times

abbrev pub Times : Type 0
Times = (ℕ × ℕ × ℕ) × List ℕ

abbrev pub times_made : (seed opened closed : ℕ × List ℕ) → Times
times_made seed opened closed = ((seed.0, opened.0, closed.0), closed.1)

pub record TakesTimes (bytes : List ℕ) (x : (ℕ × ℕ × ℕ) × List ℕ) : Type 0 where
  pub takes : Takes bytes (to_be_bytes w64 x.0.0 ++ (to_be_bytes w64 x.0.1 ++ to_be_bytes w64 x.0.2)) x.1
  pub seed : x.0.0 < 2 ^ 64
  pub opened : x.0.1 < 2 ^ 48
  pub after : x.0.1 ≤ x.0.2
  pub closed : x.0.2 < 2 ^ 48

pub times_take : (bytes : List ℕ) (x : (ℕ × ℕ × ℕ) × List ℕ) → IsBytes bytes → times_at bytes ≡ Ok x → TakesTimes bytes x
unfolding times_at
times_take bytes x fits e =
    let a = bind_ok (number_in 8 0 0xffffffffffffffff bytes) (λ seed. number_in 8 0 0xffffffffffff seed.1 >>= λ opened. number_in 8 opened.0 0xffffffffffff opened.1 >>= λ closed. Ok (times_made seed opened closed)) x e in
    let b = bind_ok (number_in 8 0 0xffffffffffff a.0.1) (λ opened. number_in 8 opened.0 0xffffffffffff opened.1 >>= λ closed. Ok (times_made a.0 opened closed)) x a.2 in
    let c = bind_ok (number_in 8 b.0.0 0xffffffffffff b.0.1) (λ closed. Ok (times_made a.0 b.0 closed)) x b.2 in
    let t0 = number_takes 8 0 0xffffffffffffffff wide8 bytes a.0 fits a.1 in
    let t1 = number_takes 8 0 0xffffffffffff wide8 a.0.1 b.0 t0.takes.rest_fits b.1 in
    let t2 = number_takes 8 b.0.0 0xffffffffffff wide8 b.0.1 c.0 t1.takes.rest_fits c.1 in
    subst (λ (y : Times). TakesTimes bytes y) (ok_is (times_made a.0 b.0 c.0) x c.2)
    (record { takes = Takes-then bytes (big_bytes 8 a.0.0) a.0.1 (big_bytes 8 b.0.0 ++ big_bytes 8 c.0.0) c.0.1 t0.takes (Takes-then a.0.1 (big_bytes 8 b.0.0) b.0.1 (big_bytes 8 c.0.0) c.0.1 t1.takes t2.takes); seed = omega (arith, t0.below); opened = omega (arith, t1.below); after = t2.above; closed = omega (arith, t2.below) })

pub times_again : (seed opened closed : ℕ) (rest : List ℕ) → seed < 2 ^ 64 → opened < 2 ^ 48 → opened ≤ closed → closed < 2 ^ 48
    → times_at (to_be_bytes w64 seed ++ (to_be_bytes w64 opened ++ (to_be_bytes w64 closed ++ rest))) ≡ Ok ((seed, opened, closed), rest)
unfolding times_at
times_again seed opened closed rest s o after c =
    rw (
      number_again 8 0 0xffffffffffffffff seed (to_be_bytes w64 opened ++ (to_be_bytes w64 closed ++ rest)) (omega arith) (omega (arith, s)) (omega (arith, s)),
      number_again 8 0 0xffffffffffff opened (to_be_bytes w64 closed ++ rest) (omega arith) (omega (arith, o)) (omega (arith, o)),
      number_again 8 opened 0xffffffffffff closed rest after (omega (arith, c)) (omega (arith, c)),
    ) refl
