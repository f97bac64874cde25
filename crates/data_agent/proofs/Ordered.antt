-- Signatures in ascending order.
use Rattle.std.proofs.Common.{ℕ, ◌≡◌, ◌↔◌, ◌∷◌, [], ◌++◌, ◌∙◌, List, ap}
use Rattle.std.specs.Cmp.{IsTotalOrder}
use Rattle.std.specs.Cmp.Lexicographic.{nat_list_cmp_total}
use Rattle.std.specs.List.{Contains}
use Rattle.std.specs.List.Sorted.{IsStrictlySortedBy}
use Rattle.std.specs.declared.cmp.Ordering.TheVariants.{Equal}
use Rattle.std.proofs.lemmas.Cmp.{on_total}
use Rattle.std.proofs.lemmas.Map.Lookups.{exact_bytes}
use Rattle.spie_base.proofs.Ascents.{order_has, order_sorted}
use Rattle.spie_base.specs.Ascending.{in_order}
use Rattle.spie_base.specs.Order.{sig_cmp}
use Rattle.spie_base.specs.declared.Sig.{Sig}

same_sig : (a b : Sig) → sig_cmp a b ≡ Equal → a ≡ b
same_sig a b e = let S : List ℕ → Sig = λ bytes. record { bytes = bytes } in ap S (exact_bytes a.bytes b.bytes e)

sigs_total : IsTotalOrder sig_cmp
sigs_total = on_total (λ (s : Sig). s.bytes) nat_list_cmp_total

pub sigs_ascend : (sigs : List Sig) → IsStrictlySortedBy sig_cmp (in_order sig_cmp sigs)
sigs_ascend sigs = order_sorted sig_cmp sigs_total same_sig sigs

pub sigs_have : (sigs : List Sig) (z : Sig) → Contains (in_order sig_cmp sigs) z ↔ Contains sigs z
sigs_have sigs z = order_has sig_cmp same_sig sigs z

-- itself, what the rows in memory say and what those say that were read back
pub gathered : (sig s0 s1 : Sig) (o0 o1 o2 : List Sig) (mine back : Sig → List Sig) → s0 ≡ sig → s1 ≡ s0 → o0 ≡ sig ∷ [] → o1 ≡ o0 ++ mine s0 → o2 ≡ o1 ++ back s1 → o2 ≡ sig ∷ (mine sig ++ back sig)
gathered sig s0 s1 o0 o1 o2 mine back e0 e1 begun first second =
    second ∙ ap (λ s. o1 ++ back s) (e1 ∙ e0) ∙ ap (λ o. o ++ back sig) (first ∙ ap (λ s. o0 ++ mine s) e0 ∙ ap (λ o. o ++ mine sig) begun)
