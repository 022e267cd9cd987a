-- Nodes that differ and stand in nothing may be put one after the other.
use Rattle.std.proofs.Common.{◌≡◌, ℕ, ◌+◌, ◌<◌, ◌^◌, cond, List, [], ◌∷◌, length, None, Some, refl, sym, ap, subst, ◌∙◌, inl, inr, arith}
use Rattle.pack_tree.specs.declared.node.Node.{Node}
use Rattle.pack_tree.specs.Pairs.{parent_in}
use Rattle.pack_tree.specs.Packing.{Packed, HasRoom, put_pair}
use Rattle.pack_tree.specs.Many.{with_put, MayPut}
use Rattle.pack_tree.specs.Stepping.{MayStep}
use Rattle.pack_tree.specs.Children.{In}
use Rattle.pack_tree.proofs.Nodes.{same_no, Distinct}
use Rattle.pack_tree.proofs.PairLists.{parent_push}

pub may_put : (p : Packed) (unit : ℕ) (ns : List Node) → Distinct ns → ((n : Node) → In n ns → HasRoom p.items p.units n × (parent_in p.pairs n ≡ None)) → unit < p.units → p.last + length ns < 2 ^ 64 → MayPut p unit ns
unfolding MayStep
may_put p unit [] d h u l = tt
may_put p unit (n ∷ ns) d h u l =
    let own = h n (inl refl) in (
      record { room = own.0; range = u; alone = own.1; last = omega (arith, l) },
      may_put (with_put unit p n) unit ns d.1 (λ m i. (
        (h m (inr i)).0,
        parent_push p.pairs (put_pair n unit (p.last + 1)) m own.1 ∙ ap (λ b. cond b (Some unit) (parent_in p.pairs m)) (same_no n m (λ e. d.0 (subst (λ x. In x ns) (sym e) i))) ∙ (h m (inr i)).1,
      )) u (omega (arith, l)),
    )
