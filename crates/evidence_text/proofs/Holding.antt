-- What is so of the lines of a certificate so far, and stays so with one line more.
use Rattle.std.proofs.Common.{ℕ, ◌≡◌, ◌+◌, ◌<◌, ◌≤◌, List, [], ◌∷◌, ◌++◌, length, refl, sym, subst, arith, true, nat_le, length-append}
use Rattle.std.proofs.lemmas.Bool.Decides.{nat_tests}
use Rattle.std.proofs.lemmas.Cmp.{nat_cmp_total, on_total, then_total}
use Rattle.std.proofs.lemmas.List.Elements.{All-append, All-cons, All-nil, All-weaker}
use Rattle.std.specs.Cmp.{IsTotalOrder}
use Rattle.std.specs.List.{All, sum_by}
use Rattle.std.specs.List.Sorted.{IsStrictlySortedBy}
use Rattle.std.specs.declared.option.Option.{Option}
use Rattle.std.specs.declared.option.Option.TheVariants.{None, Some}
use Rattle.line_text.specs.Language.{how_many}
use Rattle.reverse_flood.specs.declared.graphs.Node.{Node}
use Rattle.reverse_flood.specs.declared.graphs.Edge.{Edge}
use Rattle.topology.specs.declared.limits.TheConstants.{ROUTERS_MOST}
use Rattle.evidence_text.proofs.Ascents.{less_is, sorted_first, sorted_push}
use Rattle.evidence_text.proofs.RouterFacts.{RoutersFrom, LastRouter}
use Rattle.evidence_text.specs.Judgeable.{router_lines}
use Rattle.evidence_text.specs.Language.{links_of, start_of, routers_of, nodes_of, edges_of, unknown_of, clear_of}
use Rattle.evidence_text.specs.Order.{stage_of, count_of, routers_told, n_of, last_link, last_page, link_cmp, is_link_above, is_count, is_over, at_version, at_routers, at_links, at_pages, rank}
use Rattle.evidence_text.specs.Said.{Said}
use Rattle.evidence_text.specs.Spelling.{IsRouter, IsPair, IsPlace}
use Rattle.evidence_text.specs.declared.certificates.Link.{Link}
use Rattle.evidence_text.specs.declared.certificates.Named.{Named}
use Rattle.evidence_text.specs.declared.words.Stage.{Stage}
use Rattle.evidence_text.specs.declared.words.Stage.TheVariants as stage

-- ---- what is so

abbrev pub IsSome : Option ℕ → Type 0
IsSome None = Unit {0}
IsSome (Some count) = (1 ≤ count) × (count ≤ ROUTERS_MOST)

-- before the second line it is not known how many routers there are
abbrev pub Opening : Stage → Option ℕ → Type 0
Opening stage.Version count = count ≡ None
Opening stage.Routers count = count ≡ None
Opening _ count = Unit {0}

-- behind the start there is one
abbrev pub Started : Stage → Option ℕ → Node → Type 0
Started stage.Version count start = Unit {0}
Started stage.Routers count start = Unit {0}
Started stage.Links count start = Unit {0}
Started _ count start = IsPair count start

-- in the answer all routers were told
abbrev pub Whole : Stage → Option ℕ → ℕ → Type 0
Whole stage.Version count told = Unit {0}
Whole stage.Routers count told = Unit {0}
Whole stage.Links count told = Unit {0}
Whole stage.Pages count told = Unit {0}
Whole _ count told = is_count count told ≡ true

abbrev pub IsLinkIn : Option ℕ → Link → Type 0
IsLinkIn count l = IsRouter count l.low.number × IsRouter count l.high.number × (l.low.number < l.high.number)

abbrev pub IsNamedIn : Option ℕ → Named → Type 0
IsNamedIn count x = IsPair count x.node × IsPlace x.from

abbrev pub IsEdgeIn : Option ℕ → Edge → Type 0
IsEdgeIn count e = IsPair count e.down × IsPair count e.up

pub record IsLastLink (links : List Link) (latest : Link) : Type 0 where
  pub before : List Link
  pub are : links ≡ before ++ latest ∷ []

abbrev pub LastLink : List Link → Option Link → Type 0
LastLink links None = links ≡ []
LastLink links (Some latest) = IsLastLink links latest

-- the lines of no list: the two first, the start, and the last
abbrev pub heads : Stage → ℕ
heads stage.Version = 0
heads stage.Routers = 1
heads stage.Links = 2
heads stage.Over = 4
heads _ = 3

abbrev pub listed : List Said → ℕ
listed said = length (links_of said) + sum_by router_lines (routers_of said) + length (nodes_of said) + length (edges_of said) + length (unknown_of said) + length (clear_of said)

pub record Holds (said : List Said) : Type 0 where
  pub some : IsSome (count_of said)
  pub opening : Opening (stage_of said) (count_of said)
  pub routers : RoutersFrom 0 (routers_of said)
  pub told : length (routers_of said) ≡ routers_told said
  pub latest : LastRouter (routers_of said) (n_of said) (last_page said)
  pub whole : Whole (stage_of said) (count_of said) (routers_told said)
  pub links : All (IsLinkIn (count_of said)) (links_of said)
  pub links_ascend : IsStrictlySortedBy link_cmp (links_of said)
  pub latest_link : LastLink (links_of said) (last_link said)
  pub start : Started (stage_of said) (count_of said) (start_of said)
  pub nodes : All (IsNamedIn (count_of said)) (nodes_of said)
  pub edges : All (IsEdgeIn (count_of said)) (edges_of said)
  pub unknown : All (IsPair (count_of said)) (unknown_of said)
  pub clear : All (IsPair (count_of said)) (clear_of said)
  pub read : how_many said ≡ heads (stage_of said) + listed said

-- ---- stages

pub version_is : (s : Stage) → at_version s ≡ true → s ≡ stage.Version
version_is stage.Version e = refl
version_is _ e = absurd (cc)

pub routers_is : (s : Stage) → at_routers s ≡ true → s ≡ stage.Routers
routers_is stage.Routers e = refl
routers_is _ e = absurd (cc)

pub links_is : (s : Stage) → at_links s ≡ true → s ≡ stage.Links
links_is stage.Links e = refl
links_is _ e = absurd (cc)

pub pages_is : (s : Stage) → at_pages s ≡ true → s ≡ stage.Pages
pages_is stage.Pages e = refl
pages_is _ e = absurd (cc)

pub over_is : (s : Stage) → is_over s ≡ true → s ≡ stage.Over
over_is stage.Over e = refl
over_is _ e = absurd (cc)

no_part : (part : ℕ) → part < 7 → nat_le 7 part ≡ true → ⊥
no_part part lt e = grind (arith, nat_tests)

-- the answer goes on behind the pages
pub answer_heads : (s : Stage) (part : ℕ) → part < 7 → nat_le (rank s) part ≡ true → heads s ≡ 3
answer_heads stage.Pages part lt e = refl
answer_heads stage.Nodes part lt e = refl
answer_heads stage.Edges part lt e = refl
answer_heads stage.Unknown part lt e = refl
answer_heads stage.Clear part lt e = refl
answer_heads stage.Version part lt e = absurd (no_part part lt e)
answer_heads stage.Routers part lt e = absurd (no_part part lt e)
answer_heads stage.Links part lt e = absurd (no_part part lt e)
answer_heads stage.Over part lt e = absurd (no_part part lt e)

pub answer_started : (s : Stage) (count : Option ℕ) (start : Node) (part : ℕ) → part < 7 → nat_le (rank s) part ≡ true → Started s count start → IsPair count start
answer_started stage.Pages count start part lt e h = h
answer_started stage.Nodes count start part lt e h = h
answer_started stage.Edges count start part lt e h = h
answer_started stage.Unknown count start part lt e h = h
answer_started stage.Clear count start part lt e h = h
answer_started stage.Version count start part lt e h = absurd (no_part part lt e)
answer_started stage.Routers count start part lt e h = absurd (no_part part lt e)
answer_started stage.Links count start part lt e h = absurd (no_part part lt e)
answer_started stage.Over count start part lt e h = h

pub opening_none : (s : Stage) (count : Option ℕ) → s ≡ stage.Routers → Opening s count → count ≡ None
opening_none s count e h = let P : Stage → Type 0 = λ z. Opening z count in subst P e h

pub opening_first : (s : Stage) (count : Option ℕ) → s ≡ stage.Version → Opening s count → count ≡ None
opening_first s count e h = let P : Stage → Type 0 = λ z. Opening z count in subst P e h

pub pages_started : (s : Stage) (count : Option ℕ) (start : Node) → s ≡ stage.Pages → Started s count start → IsPair count start
pages_started s count start e h = let P : Stage → Type 0 = λ z. Started z count start in subst P e h

-- ---- one item more

pub push_all : {X : Type 0} (P : X → Type 0) (xs : List X) (x : X) → All P xs → P x → All P (xs ++ x ∷ [])
push_all P xs x h p = All-append P xs (x ∷ []) h (All-cons P x [] p (All-nil P))

links_total : IsTotalOrder link_cmp
links_total = then_total (on_total (λ l. l.low.number) nat_cmp_total) (on_total (λ l. l.high.number) nat_cmp_total)

pub push_link : (links : List Link) (last : Option Link) (l : Link) → IsStrictlySortedBy link_cmp links → LastLink links last → is_link_above last l ≡ true → IsStrictlySortedBy link_cmp (links ++ l ∷ [])
push_link links None l s is above = let P : List Link → Type 0 = λ z. IsStrictlySortedBy link_cmp (z ++ l ∷ []) in subst P (sym is) (sorted_first link_cmp l)
push_link links (Some latest) l s is above =
    let P : List Link → Type 0 = λ z. IsStrictlySortedBy link_cmp (z ++ l ∷ []) in
    let Q : List Link → Type 0 = λ z. IsStrictlySortedBy link_cmp z in
    subst P (sym is.are) (sorted_push link_cmp links_total.trans is.before latest l (subst Q is.are s) (less_is _ above))

-- where no router is known, nothing names one
pub known_first : {X : Type 0} (R : X → Option ℕ → Type 0) (xs : List X) (c : Option ℕ) (count : ℕ) → c ≡ None → ((x : X) → R x None → ⊥) → All (λ x. R x c) xs → All (λ x. R x (Some count)) xs
known_first R xs c count e none h =
    let Q : Option ℕ → Type 0 = λ z. All (λ x. R x z) xs in
    All-weaker (λ x. R x None) (λ x. R x (Some count)) (λ x bad. absurd (none x bad)) xs (subst Q e h)

pub one_more : {X : Type 0} (xs : List X) (x : X) → length (xs ++ x ∷ []) ≡ length xs + 1
one_more xs x = length-append xs (x ∷ [])
