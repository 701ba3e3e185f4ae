mod ShelfLemmas
