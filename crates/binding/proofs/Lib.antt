mod Backs
