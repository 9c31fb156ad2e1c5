-- Each public call asks nothing of its caller, and no second outcome fits its contract: two that do, for the same arguments, are equal.
use Rattle.std.specs.Prelude.{Result}
use Rattle.wire.specs.declared.Refusal.{Refusal}
use Rattle.wire.proofs.Answers.{code_once}
use Prim.Native.Nat.{ℕ}
use mathlib.Core.List.{List}
use Rattle.be.specs.Promise.{Exact}
use Rattle.be.proofs.Promise.{equation, exact, pair}
use Rattle.store.proofs.Blank.{blank_once}
use Rattle.table.proofs.fence.Reads as fence
use Rattle.table.proofs.id.Reads as id
use Rattle.table.proofs.count.Reads as count
use Rattle.table.proofs.row.Reads as row
use Rattle.table.proofs.state.Reads as state
use Rattle.table.proofs.version.Reads as version
use Rattle.table.proofs.value.Reads as value
use Rattle.table.proofs.find.Reads as find
use Rattle.table.proofs.lowest_free.Reads as lowest_free_reads
use Rattle.table.proofs.good.Reads as good
use Rattle.table.proofs.write_slot.Reads as write_slot_reads
use Rattle.table.proofs.store.Reads as store
use Rattle.table.proofs.set_fence.Reads as set_fence_reads
use Rattle.table.proofs.copy_slot.Reads as copy_slot_reads
use Rattle.table.proofs.blank.Reads as blank

pub fence_exact : Exact fence.Asked fence.Learnt (λ r e. r)
fence_exact = equation

pub id_exact : Exact id.Asked id.Learnt (λ r e. r)
id_exact = equation

pub count_exact : Exact count.Asked count.Learnt (λ r e. r)
count_exact = equation

pub row_exact : Exact row.Asked row.Learnt (λ r e. r.now)
row_exact = equation

pub state_exact : Exact state.Asked state.Learnt (λ r e. r)
state_exact = equation

pub version_exact : Exact version.Asked version.Learnt (λ r e. r)
version_exact = equation

pub value_exact : Exact value.Asked value.Learnt (λ r e. r.now)
value_exact = equation

pub find_exact : Exact find.Asked find.Learnt (λ r e. r)
find_exact = equation

pub lowest_free_exact : Exact lowest_free_reads.Asked lowest_free_reads.Learnt (λ r e. r)
lowest_free_exact = equation

pub good_exact : Exact good.Asked good.Learnt (λ r e. r)
good_exact = equation

pub write_slot_exact : Exact write_slot_reads.Asked write_slot_reads.Learnt (λ r e. e.0.now)
write_slot_exact = equation

pub store_exact : Exact store.Asked store.Learnt (λ r e. e.0.now)
store_exact = equation

pub set_fence_exact : Exact set_fence_reads.Asked set_fence_reads.Learnt (λ r e. e.0.now)
set_fence_exact = equation

pub copy_slot_exact : Exact copy_slot_reads.Asked copy_slot_reads.Learnt (λ r e. e.1.0.now)
copy_slot_exact = equation

pub blank_exact : Exact {O = Result (Unit {0}) Refusal × List ℕ} blank.Asked blank.Learnt (λ r e. (r, e.0.now))
blank_exact = exact (λ _ _ r s _ _ p q. let e = blank_once _ _ _ _ _ _ _ p q in pair (code_once r s e.0, e.1))
