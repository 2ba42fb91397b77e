-- A `&` to an `Owner` holds a share of its lifetime's token. Assumes `Logic`.
use denote.RattleType.{RattleType}
use denote.Param.Laws.{Laws}
use denote.Param.Shared.{copy_shared}
use denote.Struct.Field.{RawPtr-field}
use denote.Struct.Laws.{RawPtr-copy}
use denote.Struct.Lending.{of_Lends, lent_at_shr_laws}
use denote.RawPtr.{block_of, count_of, ◌+ₚ◌}
use Rattle.core.specs.declared.alloc.Allocator.{Ghosts}
use Rattle.shared.specs.contracts.counts.Owner as C
use Rattle.shared.specs.Ownership.{counter_at, value_offset, value_and_block, seen}
use Rattle.shared.proofs.counts.Owner.TheLaw.Statement.{statement}
use Rattle.shared.proofs.Sticky.{Lends-shared, lends_shr_laws}

pub shares : (T B : RattleType) (g : Ghosts B.Denot) (L : Laws T) (K : Laws B) → statement T B g L K
shares T B g L K =
    let t = g.dealloc_token in
    of_Lends (C.struct T B g) (C.the_codes T.Denot B.Denot T.coded B.coded) (C.the_heap T B g) (C.the_lent T B g)
    (λ d p. lends_shr_laws (block_of d.ptr, count_of d.ptr) (counter_at d.ptr) (value_and_block B t T d.ptr d.value) (seen B t T d.ptr d.value) (lent_at_shr_laws T L.shr_laws (d.ptr +ₚ value_offset B T) d.value))
    (copy_shared RawPtr-field RawPtr-copy, tt)
    (λ M 𝓤 𝓛 d p. Lends-shared (block_of d.ptr, count_of d.ptr) (counter_at d.ptr) (value_and_block B t T d.ptr d.value) 𝓛 (seen B t T d.ptr d.value)
    (lent_at_shr_laws T L.shr_laws (d.ptr +ₚ value_offset B T) d.value) (C.the_row T B g).lives)
