-- Each public call asks nothing of its caller, and no second outcome fits its contract: two that do, for the same arguments, are equal. And what the derived
-- comparisons of the kinds of numbers give.
use Prim.Native.Nat.{ℕ, ◌*◌, ◌^◌, ◌<◌}
use mathlib.Core.Path.{◌≡◌, refl, sym, ◌∙◌}
use mathlib.Core.List.{[], Memᴰ}
use denote.RattleType.{RattleType}
use denote.Param.Laws.{Laws, IsCopy}
use mir.Syntax.{Dict, w64}
use mir.Val.{Fits}
use Rattle.std.specs.declared.clone.Clone.{Ghosts as CloneGhosts}
use Rattle.std.specs.declared.cmp.PartialEq.{Ghosts as EqGhosts}
use Rattle.std.specs.Ordering.{partial_lt}
use Rattle.std.proofs.slice.Orders.{nat_cmp-ltb}
use Rattle.std.proofs.Math.Logic.{∥∥₁_map}
use Rattle.be.specs.Promise.{Once, Exact}
use Rattle.be.proofs.Promise.{equation_once, equation}
use Rattle.wire.specs.Version.{less_session, same_session, less_sequence, same_sequence, less_stamp, same_stamp}
use Rattle.wire.specs.declared.Session.{Session}
use Rattle.wire.specs.declared.Sequence.{Sequence}
use Rattle.wire.specs.declared.Stamp.{Stamp}
use Rattle.wire.specs.declared.Kind.{Ghosts}
use Rattle.wire.specs.contracts.Session.{the_row as session_row}
use Rattle.wire.specs.contracts.Sequence.{the_row as sequence_row}
use Rattle.wire.specs.contracts.Stamp.{the_row as stamp_row}
use Rattle.wire.specs.contracts.SessionKind.TheImpl as session_kind
use Rattle.wire.specs.contracts.SequenceKind.TheImpl as sequence_kind
use Rattle.wire.specs.contracts.StampKind.TheImpl as stamp_kind
use Rattle.wire.specs.contracts.SessionPartialEq.TheImpl as session_eq
use Rattle.wire.specs.contracts.SessionPartialOrd.TheImpl as session_ord
use Rattle.wire.specs.contracts.SequencePartialEq.TheImpl as sequence_eq
use Rattle.wire.specs.contracts.SequencePartialOrd.TheImpl as sequence_ord
use Rattle.wire.specs.contracts.StampPartialEq.TheImpl as stamp_eq
use Rattle.wire.specs.contracts.StampPartialOrd.TheImpl as stamp_ord
use Rattle.wire.proofs.Answers.{code_once}
use Rattle.wire.proofs.Session.TheLaws as session_laws
use Rattle.wire.proofs.Sequence.TheLaws as sequence_laws
use Rattle.wire.proofs.Stamp.TheLaws as stamp_laws
use Rattle.wire.proofs.number.Reads as number
use Rattle.wire.proofs.first_of.Reads as first_of
use Rattle.wire.proofs.Kind.last.Reads as last
use Rattle.wire.proofs.SessionPartialEq.eq.Reads as session_same
use Rattle.wire.proofs.SessionPartialOrd.partial_cmp.Reads as session_order
use Rattle.wire.proofs.SequencePartialEq.eq.Reads as sequence_same
use Rattle.wire.proofs.SequencePartialOrd.partial_cmp.Reads as sequence_order
use Rattle.wire.proofs.StampPartialEq.eq.Reads as stamp_same
use Rattle.wire.proofs.StampPartialOrd.partial_cmp.Reads as stamp_order
use Rattle.wire.proofs.SessionKind.next.Reads as session_next
use Rattle.wire.proofs.SequenceKind.next.Reads as sequence_next
use Rattle.wire.proofs.StampKind.next.Reads as stamp_next
use Rattle.wire.proofs.Version.new.Reads as version_new
use Rattle.wire.proofs.Version.is_zero.Reads as version_zero
use Rattle.wire.proofs.Version.is_given.Reads as version_given
use Rattle.wire.proofs.Version.is_orderly.Reads as version_orderly
use Rattle.wire.proofs.Version.newer.Reads as version_newer

pub session_next_exact : Exact session_next.Asked session_next.Learnt (λ r e. r)
session_next_exact = equation

pub sequence_next_exact : Exact sequence_next.Asked sequence_next.Learnt (λ r e. r)
sequence_next_exact = equation

pub stamp_next_exact : Exact stamp_next.Asked stamp_next.Learnt (λ r e. r)
stamp_next_exact = equation

pub version_new_exact : Exact version_new.Asked version_new.Learnt (λ r e. r)
version_new_exact = equation

pub version_zero_exact : Exact version_zero.Asked version_zero.Learnt (λ r e. r)
version_zero_exact = equation

pub version_given_exact : Exact version_given.Asked version_given.Learnt (λ r e. r)
version_given_exact = equation

pub version_orderly_exact : Exact version_orderly.Asked version_orderly.Learnt (λ r e. r)
version_orderly_exact = equation

pub version_newer_exact : Exact version_newer.Asked version_newer.Learnt (λ r e. r)
version_newer_exact = equation

-- ---- the calls over any type or any number of rows

pub number_once : (T : RattleType) (L : Laws T) (C : IsCopy T) (c : CloneGhosts T.Denot) (d : Dict) → Once (number.Learnt T L C c d) (λ r e. r)
number_once T L C c d = equation_once

pub first_of_once : (N : ℕ) (F : Fits w64 N) → Once (first_of.Learnt N F) (λ r e. r)
first_of_once N F = record { one = λ κs a r s e f p q. code_once r s (p ∙ sym q) }

-- of a session, a sequence and a stamp alike
pub last_once : (T : RattleType) (L : Laws T) (C : IsCopy T) (n : Ghosts T.Denot) (d : Dict) (c : CloneGhosts T.Denot) (e : Dict) (q : EqGhosts T.Denot) (f : Dict)
    → Once (last.Learnt T L C n d c e q f) (λ r x. r)
last_once T L C n d c e q f = equation_once

-- the toolchain asks that what a type borrows lasts, which of a type that borrows nothing asks nothing, and that a value fits in memory
abbrev Borrows : RattleType → ℕ → Type 0
Borrows T x = Memᴰ x T.lives

lasting : {A : ℕ → Type 0} (B : ℕ → Type 0) → ((x : ℕ) → A x → ⊥) → (x : ℕ) → ∥ A x ∥₁ → ∥ B x ∥₁
lasting B none x m = ∥∥₁_map m (λ b. absurd (none x b))

pub number_exact : (T : RattleType) (L : Laws T) (C : IsCopy T) (c : CloneGhosts T.Denot) (d : Dict) → ((x : ℕ) → Borrows T x → ⊥)
    → Exact (number.Asked T L C c d) (number.Learnt T L C c d) (λ r e. r)
number_exact T L C c d none = record { asks = λ κs a. search (lasting (λ x. Memᴰ x κs.0) none); once = number_once T L C c d }

-- of rows that fit in memory, two bytes each
pub first_of_exact : (N : ℕ) (F : Fits w64 N) → N * 2 < 2 ^ 63 → Exact (first_of.Asked N F) (first_of.Learnt N F) (λ r e. r)
first_of_exact N F small = record { asks = λ κs a. search (lasting {A = λ x. Memᴰ {A = ℕ} x []} (λ x. Memᴰ x κs.0) (λ x b. elim b [ ]), small); once = first_of_once N F }

abbrev LastExact : (T : RattleType) → Laws T → IsCopy T → Ghosts T.Denot → Dict → CloneGhosts T.Denot → Dict → EqGhosts T.Denot → Dict → Type 0
LastExact T L C n d c e q f = Exact (last.Asked T L C n d c e q f) (last.Learnt T L C n d c e q f) (λ r x. r)

pub last_exact : (T : RattleType) (L : Laws T) (C : IsCopy T) (n : Ghosts T.Denot) (d : Dict) (c : CloneGhosts T.Denot) (e : Dict) (q : EqGhosts T.Denot) (f : Dict)
    → ((x : ℕ) → Borrows T x → ⊥) → LastExact T L C n d c e q f
last_exact T L C n d c e q f none = record { asks = λ κs a. search (lasting (λ x. Memᴰ x κs.0) none); once = last_once T L C n d c e q f }

-- of each kind, however it is cloned
pub session_last_exact : (c : CloneGhosts Session) (e : Dict)
    → LastExact session_row session_laws.the_row_laws session_laws.the_row_copy session_kind.ghosts session_kind.dict c e session_eq.ghosts session_eq.dict
session_last_exact c e =
    last_exact session_row session_laws.the_row_laws session_laws.the_row_copy session_kind.ghosts session_kind.dict c e session_eq.ghosts session_eq.dict (λ x b. elim b [ ])

pub sequence_last_exact : (c : CloneGhosts Sequence) (e : Dict)
    → LastExact sequence_row sequence_laws.the_row_laws sequence_laws.the_row_copy sequence_kind.ghosts sequence_kind.dict c e sequence_eq.ghosts sequence_eq.dict
sequence_last_exact c e =
    last_exact sequence_row sequence_laws.the_row_laws sequence_laws.the_row_copy sequence_kind.ghosts sequence_kind.dict c e sequence_eq.ghosts sequence_eq.dict (λ x b. elim b [ ])

pub stamp_last_exact : (c : CloneGhosts Stamp) (e : Dict)
    → LastExact stamp_row stamp_laws.the_row_laws stamp_laws.the_row_copy stamp_kind.ghosts stamp_kind.dict c e stamp_eq.ghosts stamp_eq.dict
stamp_last_exact c e =
    last_exact stamp_row stamp_laws.the_row_laws stamp_laws.the_row_copy stamp_kind.ghosts stamp_kind.dict c e stamp_eq.ghosts stamp_eq.dict (λ x b. elim b [ ])

-- ---- `==` and `<` of each kind, which are derived: `<` is by the order, and both are the definitions

pub session_same_exact : Exact session_same.Asked session_same.Learnt (λ r e. r)
session_same_exact = equation

pub session_order_exact : Exact session_order.Asked session_order.Learnt (λ r e. r)
session_order_exact = equation

pub sequence_same_exact : Exact sequence_same.Asked sequence_same.Learnt (λ r e. r)
sequence_same_exact = equation

pub sequence_order_exact : Exact sequence_order.Asked sequence_order.Learnt (λ r e. r)
sequence_order_exact = equation

pub stamp_same_exact : Exact stamp_same.Asked stamp_same.Learnt (λ r e. r)
stamp_same_exact = equation

pub stamp_order_exact : Exact stamp_order.Asked stamp_order.Learnt (λ r e. r)
stamp_order_exact = equation

pub session_same_is : (a b : Session) → session_eq.ghosts.eq a b ≡ same_session a b
session_same_is a b = refl

pub session_less_is : (a b : Session) → partial_lt session_ord.ghosts.partial_cmp a b ≡ less_session a b
session_less_is a b = nat_cmp-ltb a.0 b.0

pub sequence_same_is : (a b : Sequence) → sequence_eq.ghosts.eq a b ≡ same_sequence a b
sequence_same_is a b = refl

pub sequence_less_is : (a b : Sequence) → partial_lt sequence_ord.ghosts.partial_cmp a b ≡ less_sequence a b
sequence_less_is a b = nat_cmp-ltb a.0 b.0

pub stamp_same_is : (a b : Stamp) → stamp_eq.ghosts.eq a b ≡ same_stamp a b
stamp_same_is a b = refl

pub stamp_less_is : (a b : Stamp) → partial_lt stamp_ord.ghosts.partial_cmp a b ≡ less_stamp a b
stamp_less_is a b = nat_cmp-ltb a.0 b.0
