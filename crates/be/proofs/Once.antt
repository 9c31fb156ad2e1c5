-- No second outcome fits the contract of a public call. These calls alone ask something of their callers, so nothing is said here of what is asked.
use Rattle.std.proofs.Common.{◌≡◌, refl, sym, ◌∙◌}
use denote.RattleType.{RattleType}
use denote.Param.Laws.{Laws, of_field}
use denote.Param.Shared.{copy_shared}
use denote.Struct.Field.{u8-field, u16-field, u32-field, u64-field}
use denote.Struct.Laws.{u8-laws, u16-laws, u32-laws, u64-laws, u8-copy, u16-copy, u32-copy, u64-copy}
use denote.Builtin.{u8, u16, u32, u64}
use mir.Syntax.{Dict}
use Rattle.be.specs.Promise.{Once}
use Rattle.be.specs.declared.Number.{Ghosts}
use Rattle.be.specs.contracts.U8Number.TheImpl as byte
use Rattle.be.specs.contracts.U16Number.TheImpl as two
use Rattle.be.specs.contracts.U32Number.TheImpl as four
use Rattle.be.specs.contracts.U64Number.TheImpl as eight
use Rattle.be.proofs.Promise.{equation_once}
use Rattle.be.proofs.read.Reads as read
use Rattle.be.proofs.put.Reads as put_reads
use Rattle.be.proofs.same64.Reads as same64
use Rattle.be.proofs.put_bytes.Reads as put_bytes_reads
use Rattle.be.proofs.put_zeros.Reads as put_zeros_reads

-- of each number that its value tells apart, which is a law of the trait
pub read_once : (T : RattleType) (L : Laws T) (n : Ghosts T.Denot) (d : Dict) → ((x y : T.Denot) → n.value x ≡ n.value y → x ≡ y) → Once (read.Learnt T L n d) (λ r e. r)
read_once T L n d told = record { one = λ κs a r s e f p q. told r s (p ∙ sym q) }

pub put_once : (T : RattleType) (L : Laws T) (n : Ghosts T.Denot) (d : Dict) → Once (put_reads.Learnt T L n d) (λ r e. e.0.now)
put_once T L n d = equation_once

-- at each size, whose type has the logic's laws
pub laws8 : Laws u8
laws8 = of_field u8-field u8-laws refl (copy_shared u8-field u8-copy)

pub laws16 : Laws u16
laws16 = of_field u16-field u16-laws refl (copy_shared u16-field u16-copy)

pub laws32 : Laws u32
laws32 = of_field u32-field u32-laws refl (copy_shared u32-field u32-copy)

pub laws64 : Laws u64
laws64 = of_field u64-field u64-laws refl (copy_shared u64-field u64-copy)

pub read16_once : Once (read.Learnt u16 laws16 two.ghosts two.dict) (λ r e. r)
read16_once = equation_once

pub read32_once : Once (read.Learnt u32 laws32 four.ghosts four.dict) (λ r e. r)
read32_once = equation_once

pub read64_once : Once (read.Learnt u64 laws64 eight.ghosts eight.dict) (λ r e. r)
read64_once = equation_once

pub same64_once : Once same64.Learnt (λ r e. r)
same64_once = equation_once

pub put8_once : Once (put_reads.Learnt u8 laws8 byte.ghosts byte.dict) (λ r e. e.0.now)
put8_once = equation_once

pub put16_once : Once (put_reads.Learnt u16 laws16 two.ghosts two.dict) (λ r e. e.0.now)
put16_once = equation_once

pub put32_once : Once (put_reads.Learnt u32 laws32 four.ghosts four.dict) (λ r e. e.0.now)
put32_once = equation_once

pub put64_once : Once (put_reads.Learnt u64 laws64 eight.ghosts eight.dict) (λ r e. e.0.now)
put64_once = equation_once

pub put_bytes_once : Once put_bytes_reads.Learnt (λ r e. e.0.now)
put_bytes_once = equation_once

pub put_zeros_once : Once put_zeros_reads.Learnt (λ r e. e.0.now)
put_zeros_once = equation_once
